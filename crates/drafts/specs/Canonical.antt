-- What every draft that calls make keeps, and the calls that draw a draft afresh, in one order.
use Rattle.std.specs.Prelude.{◌≡◌, ℕ, zero, suc, ◌<◌, ◌≤◌, true, cond, List, [], ◌∷◌, ◌++◌, map, slice_index}
use Rattle.kinds.specs.Kinds.{KindModel}
use Rattle.drafts.specs.declared.calls.Call.{Call}
use Rattle.drafts.specs.declared.calls.Call.TheVariants.{Grow, Enter}
use Rattle.automata.specs.Drafts.{DraftModel, size, letters}
use Rattle.drafts.specs.Calls.{link}

pub record Proper (K : KindModel) (d : DraftModel) : Type 0 where
  pub few : size d ≤ 32
  pub admitted : (k : ℕ) → k < size d → K.admits (slice_index d.values k) ≡ true
  pub entered : (p : ℕ) → d.entry p ≡ true → p < size d
  pub linked : (p a q : ℕ) → d.arrow p a q ≡ true → (p < size d) × (a < letters d) × (q < size d)

-- f 0, f 1 and so on to f (n - 1), one after another
abbrev pub each_below : {A : Type 0} → ℕ → (ℕ → List A) → List A
each_below zero f = []
each_below (suc n) f = each_below n f ++ f n

abbrev pub grow_calls : DraftModel → List Call
grow_calls d = map Grow d.values

abbrev pub enter_calls : DraftModel → List Call
enter_calls d = each_below (size d) (λ p. cond (d.entry p) (Enter p ∷ []) [])

abbrev pub link_calls : DraftModel → List Call
link_calls d = each_below (size d) (λ p. each_below (letters d) (λ a. each_below (size d) (λ q. cond (d.arrow p a q) (link p a q ∷ []) [])))

-- states by number, then entry states by number, then arrows by from-state, letter and to-state
abbrev pub redrawn : DraftModel → List Call
redrawn d = grow_calls d ++ (enter_calls d ++ link_calls d)
