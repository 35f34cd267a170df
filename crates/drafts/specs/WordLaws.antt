-- The elementary laws of what a draft says of words.
use Rattle.std.specs.Prelude.{◌≡◌, ℕ, ◌<◌, ◌≤◌, Bool, true, false, cond, ◌↔◌, List, [], ◌∷◌, ◌++◌}
use Rattle.kinds.specs.Kinds.{KindModel, join, join_all}
use Rattle.automata.specs.Drafts.{DraftModel, size}
use Rattle.drafts.specs.Words.{tabulate, member, union, entries, onward, reach, Path, weigh, value, value_from}

pub record WordLaws (K : KindModel) (d : DraftModel) : Type 0 where
  -- the empty word reaches the entries
  pub empty : reach d [] ≡ entries d
  -- one more letter behind
  pub behind : (w : List ℕ) (a : ℕ) → reach d (w ++ a ∷ []) ≡ onward d (reach d w) a
  -- a word reaches a state where a path from an entry spells it
  pub reached : (w : List ℕ) (q : ℕ)
      → (member (reach d w) q ≡ true) ↔ ((p : ℕ) × (p < size d) × (d.entry p ≡ true) × Path d p w q)
  -- and nothing that is no state
  pub outside : (w : List ℕ) (q : ℕ) → size d ≤ q → member (reach d w) q ≡ false
  -- one more letter in front
  pub in_front : (p a : ℕ) (w : List ℕ) → p < size d
      → value_from K d p (a ∷ w) ≡ join_all K (tabulate (size d) (λ q. cond (d.arrow p a q) (value_from K d q w) K.none))
  -- the value is the join over the entries
  pub from_entries : (w : List ℕ) → value K d w ≡ join_all K (tabulate (size d) (λ p. cond (d.entry p) (value_from K d p w) K.none))
  -- what follows a word counts only by the set that the word reaches
  pub ending : (u w : List ℕ) → value K d (u ++ w) ≡ weigh K d (reach d u) (tabulate (size d) (λ p. value_from K d p w))
  pub unions : (s t : List Bool) (c : List ℕ) → weigh K d (union s t) c ≡ join K (weigh K d s c) (weigh K d t c)
  pub admitted : (w : List ℕ) → K.admits (value K d w) ≡ true
  pub admitted_from : (q : ℕ) (w : List ℕ) → K.admits (value_from K d q w) ≡ true
