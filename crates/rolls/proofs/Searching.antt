-- What a search of the entries in use found, by what it says of their slice.
use Rattle.std.proofs.Common.{◌≡◌, ℕ, ◌<◌, ◌≤◌, ◌≢◌, List, length, take, Some, None, Option, sym, ◌∙◌, arith}
use Rattle.std.specs.List.{AllWithin, HoldsAt}
use Rattle.std.specs.Option.{MatchOption}
use Rattle.std.proofs.lemmas.List.{get_or-take, length-take-le}
use Rattle.rolls.specs.Rolls.{Different, Addable, Searched}
use Rattle.rolls.proofs.Differing.{different_added}

-- es, n: the entries, and how many are in use; d is what is read past the end
module _ {S : Type 0} (x d : S) (es : List S) (n : ℕ) (w : n ≤ length es) where
  pub searched : (r : Option ℕ)
      → MatchOption r (AllWithin (λ y. y ≢ x) (take n es) 0 (length (take n es))) (λ i. (i < length (take n es)) × HoldsAt (λ y. y ≡ x) (take n es) i × AllWithin (λ y. y ≢ x) (take n es) 0 i)
      → Searched x d es n r
  searched (Some i) m =
      let l : i < n = omega (arith, m.0, length-take-le n es w) in
      record {
        below = l;
        there = sym (get_or-take n es i d l) ∙ m.1 d;
        before = λ k h e. let lk : k < n = omega arith in m.2 k d (omega arith) h (get_or-take n es k d lk ∙ e);
      }
  searched None m = λ k h e. m k d (omega arith) (omega (arith, length-take-le n es w)) (get_or-take n es k d h ∙ e)

  pub addable : (r : Option ℕ) → Different es n → Searched x d es n r → Addable x es n r
  addable (Some i) differ s = tt
  addable None differ absent = λ free. different_added x d es n free absent differ
