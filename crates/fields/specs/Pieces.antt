-- Byte strings as pieces between the occurrences of one byte, the separator b.
use Rattle.std.specs.Prelude.{◌≡◌, ℕ, ◌+◌, ◌<◌, cond, List, [], ◌∷◌, ◌++◌, length, Some, None, Option, ◌==◌, ◌≢◌, slice_index}
use Rattle.std.specs.Borrow.{Bor}

-- x in front of the first piece
abbrev pub onto : ℕ → List (List ℕ) → List (List ℕ)
onto x [] = (x ∷ []) ∷ []
onto x (p ∷ ps) = (x ∷ p) ∷ ps

-- the pieces of a byte string between the occurrences of b; always at least one
abbrev pub pieces : ℕ → List ℕ → List (List ℕ)
pieces b [] = [] ∷ []
pieces b (x ∷ xs) = cond (x == b) ([] ∷ pieces b xs) (onto x (pieces b xs))

-- each piece with b before it
abbrev pub behind : ℕ → List (List ℕ) → List ℕ
behind b [] = []
behind b (p ∷ ps) = b ∷ (p ++ behind b ps)

-- the pieces with b between them
abbrev pub join_with : ℕ → List (List ℕ) → List ℕ
join_with b [] = []
join_with b (p ∷ ps) = p ++ behind b ps

-- each piece with b after it: lines that are each ended by b
abbrev pub ended : ℕ → List (List ℕ) → List ℕ
ended b [] = []
ended b (p ∷ ps) = p ++ (b ∷ ended b ps)

-- b does not stand in xs
abbrev pub Free : ℕ → List ℕ → Type 0
Free b xs = (k : ℕ) → k < length xs → slice_index xs k ≢ b

-- b stands in none of the pieces
abbrev pub AllFree : ℕ → List (List ℕ) → Type 0
AllFree b [] = Unit {0}
AllFree b (p ∷ ps) = Free b p × AllFree b ps

-- the part before the first b and the part after it, where they lie in the text
pub record CutAt (b : ℕ) (text before after : Bor (List ℕ)) : Type 0 where
  pub whole : text.now ≡ before.now ++ (b ∷ after.now)
  pub first : Free b before.now
  pub front : before.ref_ptr ≡ text.ref_ptr
  pub back : after.ref_ptr ≡ (text.ref_ptr.0, text.ref_ptr.1 + (length before.now + 1))

-- the two parts, or None just where b does not stand in the text
abbrev pub Cuts : ℕ → Bor (List ℕ) → Option (Bor (List ℕ) × Bor (List ℕ)) → Type 0
Cuts b text None = Free b text.now
Cuts b text (Some p) = CutAt b text p.0 p.1

-- Pieces and byte strings determine each other: the pieces joined are the byte string, no piece has the separator in it,
-- and they are the only such pieces. Lines that are each ended by the separator come back, with an empty piece behind them.
pub record PieceLaws : Type 0 where
  pub rejoined : (b : ℕ) (xs : List ℕ) → join_with b (pieces b xs) ≡ xs
  pub free : (b : ℕ) (xs : List ℕ) → AllFree b (pieces b xs)
  pub only : (b : ℕ) (p : List ℕ) (ps : List (List ℕ)) → AllFree b (p ∷ ps) → pieces b (join_with b (p ∷ ps)) ≡ p ∷ ps
  pub ends : (b : ℕ) (ps : List (List ℕ)) → AllFree b ps → pieces b (ended b ps) ≡ ps ++ ([] ∷ [])
