-- Different entries, the first of a list, and what placing one more leaves.
use Rattle.std.specs.Prelude.{◌≡◌, ℕ, ◌+◌, ◌<◌, ◌≤◌, ◌⊎◌, List, length, get_or, Some, None, Ok, Err, Option, Result, ◌≢◌, slice_index_or, slice_set}
use Rattle.std.specs.Borrow.{Bor}

-- the first n entries are pairwise different
abbrev pub Different : {S : Type 0} → List S → ℕ → Type 0
Different {S} es n = (i j : ℕ) (d : S) → (i < j) × (j < n) × (slice_index_or es i d ≡ slice_index_or es j d) → ⊥

-- none of the first n entries is x; d is what is read past the end of the list
abbrev pub Absent : {S : Type 0} → S → S → List S → ℕ → Type 0
Absent x d es n = (k : ℕ) → k < n → slice_index_or es k d ≢ x

-- i is the number of the first entry equal to x
pub record First {S : Type 0} (x d : S) (es : List S) (n : ℕ) (i : ℕ) : Type 0 where
  pub below : i < n
  pub there : get_or es i d ≡ x
  pub before : Absent x d es i

-- the first of the first n entries that equals x, or none
abbrev pub Searched : {S : Type 0} → S → S → List S → ℕ → Option ℕ → Type 0
Searched x d es n (Some i) = First x d es n i
Searched x d es n None = Absent x d es n

-- where none was found and an entry is free, x may be added: the entries stay different
abbrev pub Addable : {S : Type 0} → S → List S → ℕ → Option ℕ → Type 0
Addable x es n (Some i) = Unit {0}
Addable x es n None = n < length es → Different (slice_set es n x) (n + 1)

-- the entry numbered i where it is one of the first n, else none
abbrev pub Got : {S : Type 0} → S → List S → ℕ → ℕ → Option (Bor S) → Type 0
Got d es n i (Some e) = (i < n) × (e.now ≡ slice_index_or es i d)
Got d es n i None = n ≤ i

-- x stands at i already, and nothing changed
pub record Found {S : Type 0} (x d : S) (es : List S) (n : ℕ) (es' : List S) (n' : ℕ) (i : ℕ) : Type 0 where
  pub below : i < n
  pub there : get_or es i d ≡ x
  pub kept : es' ≡ es
  pub long : n' ≡ n

-- x is new, and was added at the end
pub record Added {S : Type 0} (x d : S) (es : List S) (n : ℕ) (es' : List S) (n' : ℕ) (i : ℕ) : Type 0 where
  pub absent : Absent x d es n
  pub at : i ≡ n
  pub room : n < length es
  pub grown : es' ≡ slice_set es n x
  pub long : n' ≡ n + 1

-- x is new, no supplied entry is free, and nothing changed
pub record Full {S : Type 0} (x d : S) (es : List S) (n : ℕ) (es' : List S) (n' : ℕ) : Type 0 where
  pub absent : Absent x d es n
  pub full : n ≡ length es
  pub kept : es' ≡ es
  pub long : n' ≡ n

-- what placing x answers, and what it leaves of the entries es, n of them in use
abbrev pub Placed : {S E : Type 0} → S → S → List S → ℕ → List S → ℕ → Result ℕ E → Type 0
Placed x d es n es' n' (Ok i) = Found x d es n es' n' i ⊎ Added x d es n es' n' i
Placed x d es n es' n' (Err e) = Full x d es n es' n'
