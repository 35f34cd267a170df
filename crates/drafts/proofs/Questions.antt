-- Questions that are asked in their order: no fault exactly where every answer is yes.
use Rattle.std.proofs.Common.{◌≡◌, ℕ, Bool, true, false, cond, List, [], ◌∷◌, Some, None, refl, ◌∙◌, arith}
use Rattle.std.proofs.lemmas.Bool.{cond-true}
use Rattle.automata.specs.Tests.{first_no}

module _ {E : Type 0} where
  -- every answer is yes
  abbrev pub AllYes : List (Bool × E) → Type 0
  AllYes [] = Unit {0}
  AllYes (q ∷ qs) = (q.0 ≡ true) × AllYes qs

  pub none_from_yes : (qs : List (Bool × E)) → AllYes qs → first_no qs ≡ None
  none_from_yes [] h = refl
  none_from_yes (q ∷ qs) h = cond-true q.0 (first_no qs) (Some q.1) h.0 ∙ none_from_yes qs h.1

  pub yes_from_none : (qs : List (Bool × E)) → first_no qs ≡ None → AllYes qs
  yes_from_none [] h = tt
  yes_from_none (q ∷ qs) h = go q.0 refl h (yes_from_none qs)
    where
      go : (b : Bool) → q.0 ≡ b → cond b (first_no qs) (Some q.1) ≡ None → (first_no qs ≡ None → AllYes qs) → AllYes (q ∷ qs)
      go true e n rest = (e, rest n)
      go false e n rest = let z : ◌≡◌ {A = ℕ} 0 1 = cc in absurd (omega arith)
