-- Lists of a fixed length whose first places hold the values of a function, and tests of all places of a list.
use Rattle.std.proofs.Common.{◌≡◌, ℕ, ◌+◌, ◌<◌, ◌≤◌, Bool, true, false, cond, ltb, List, length, get_or, set, replicate, Decides, sym, refl, ap, ◌∙◌, inl, inr, arith, length-set}
use lib.ListN.{length-replicate}
use Rattle.std.proofs.lemmas.List.{get_or-set_same, get_or-set_other, get_or-replicate}
use Rattle.std.proofs.lemmas.Bool.{cases_lt, cases_eq, cases_Bool, both_ways, lt-ltb, le-ltb, cond-true, cond-false}
use Rattle.std.proofs.lemmas.Bool.Decides.{Decides-below_and}
use Rattle.std.specs.Bool.{MatchBool}
use Rattle.std.specs.List.{AllWithin, HoldsAt}
use Rattle.automata.specs.Tests.{every}
use Rattle.drafts.proofs.Tabulates.{length-tabulate, get_d_tabulate, get_or_tabulate_past, is_tabulate}
use Rattle.tables.specs.Laying.{padded}

module _ {A : Type 0} (m : ℕ) (d : A) (f : ℕ → A) where
  -- what stands in the place k where n places are filled
  abbrev at : ℕ → ℕ → A
  at n k = cond (ltb k n) (f k) d

  pub padded-length : (n : ℕ) → length (padded m d n f) ≡ m
  padded-length n = length-tabulate m (at n)

  pub padded-at : (n k : ℕ) → k < n → n ≤ m → get_or (padded m d n f) k d ≡ f k
  padded-at n k l h = get_d_tabulate m (at n) k d (omega arith) ∙ cond-true (ltb k n) (f k) d (lt-ltb k n l)

  pub padded-past : (n k : ℕ) → n ≤ k → get_or (padded m d n f) k d ≡ d
  padded-past n k g =
      elim (cases_lt k m) [
        | inl l ↦ get_d_tabulate m (at n) k d l ∙ cond-false (ltb k n) (f k) d (le-ltb k n g)
        | inr far ↦ get_or_tabulate_past m (at n) k d far
      ]

  pub padded-none : replicate m d ≡ padded m d 0 f
  padded-none = is_tabulate d m (at 0) (replicate m d) (length-replicate m d)
      (λ k l. get_or-replicate m k d d l ∙ sym (cond-false (ltb k 0) (f k) d (le-ltb k 0 (omega arith))))

  -- one place more
  pub padded-more : (n : ℕ) (x : A) → n < m → x ≡ f n → set (padded m d n f) n x ≡ padded m d (n + 1) f
  padded-more n x l e =
      is_tabulate d m (at (n + 1)) (set (padded m d n f) n x) (length-set _ n x ∙ padded-length n)
      (λ k h. elim (cases_eq k n) [
        | inl same ↦
            ap (λ j. get_or (set (padded m d n f) n x) j d) same
            ∙ (get_or-set_same (padded m d n f) n x d (rw (padded-length n) l)
            ∙ (e ∙ sym (ap (at (n + 1)) same ∙ cond-true (ltb n (n + 1)) (f n) d (lt-ltb n (n + 1) (omega arith)))))
        | inr ne ↦ get_or-set_other (padded m d n f) n k x d ne ∙ (get_d_tabulate m (at n) k d h ∙ still n k ne)
      ])
    where
      still : (n k : ℕ) → (k ≡ n → ⊥) → at n k ≡ at (n + 1) k
      still n k ne =
          elim (cases_lt k n) [
            | inl l ↦ cond-true (ltb k n) (f k) d (lt-ltb k n l) ∙ sym (cond-true (ltb k (n + 1)) (f k) d (lt-ltb k (n + 1) (omega arith)))
            | inr g ↦ cond-false (ltb k n) (f k) d (le-ltb k n g) ∙ sym (cond-false (ltb k (n + 1)) (f k) d (le-ltb k (n + 1) (omega arith)))
          ]

-- a test of all places
pub decides_every : (f : ℕ → Bool) (P : ℕ → Type 0) → ((k : ℕ) → Decides (f k) (P k)) → (n : ℕ) → Decides (every n f) ((k : ℕ) → k < n → P k)
decides_every f P each = Decides-below_and f P (λ n. every n f) each refl (λ _. refl)

pub every_true : (n : ℕ) (f : ℕ → Bool) → ((k : ℕ) → k < n → f k ≡ true) → true ≡ every n f
every_true n f h = sym ((decides_every f (λ k. f k ≡ true) (λ k. ((λ e. e), λ e. e)) n).1 h)

pub every-at : (n : ℕ) (f : ℕ → Bool) → every n f ≡ true → (k : ℕ) → k < n → f k ≡ true
every-at n f = (decides_every f (λ k. f k ≡ true) (λ k. ((λ e. e), λ e. e)) n).0

pub every-false : (n : ℕ) (f : ℕ → Bool) (k : ℕ) → k < n → f k ≡ false → false ≡ every n f
every-false n f k l h = elim (cases_Bool (every n f)) [ inl t ↦ absurd (both_ways _ h (every-at n f t k l)) | inr e ↦ sym e ]

-- the answer of `all` over a list
pub every_is : (xs : List ℕ) (f : ℕ → Bool) (r : Bool) → MatchBool r (AllWithin (λ x. f x ≡ true) xs 0 (length xs)) ((k : ℕ) × (k < length xs) × HoldsAt (λ x. f x ≡ false) xs k)
    → r ≡ every (length xs) (λ k. f (get_or xs k 0))
every_is xs f true m = every_true (length xs) (λ k. f (get_or xs k 0)) (λ k l. m k 0 (omega arith) l)
every_is xs f false m = every-false (length xs) (λ k. f (get_or xs k 0)) m.0 m.1 (m.2 0)
