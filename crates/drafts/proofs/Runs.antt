-- Words in two parts, and words turned round.
use Rattle.std.proofs.Common.{◌≡◌, ℕ, List, [], ◌∷◌, ◌++◌, reverse, refl, ap, ◌∙◌}
use mathlib.Core.List.{reverse_aux, reverse-cons}
use Rattle.drafts.specs.Words.{Over, run}

pub run-append : {S : Type 0} (step : S → ℕ → S) (s : S) (u w : List ℕ) → run step s (u ++ w) ≡ run step (run step s u) w
run-append step s [] w = refl
run-append step s (a ∷ u) w = run-append step (step s a) u w

-- the first letter of a word is the last of the word turned round
pub run-reverse : {S : Type 0} (step : S → ℕ → S) (s : S) (a : ℕ) (w : List ℕ) → run step s (reverse (a ∷ w)) ≡ step (run step s (reverse w)) a
run-reverse step s a w = ap (run step s) (reverse-cons a w) ∙ run-append step s (reverse w) (a ∷ [])

pub over-append : (n : ℕ) (u w : List ℕ) → Over n u → Over n w → Over n (u ++ w)
over-append n [] w o p = p
over-append n (a ∷ u) w o p = (o.0, over-append n u w o.1 p)

over_reverse_aux : (n : ℕ) (u r : List ℕ) → Over n u → Over n r → Over n (reverse_aux u r)
over_reverse_aux n [] r o p = p
over_reverse_aux n (a ∷ u) r o p = over_reverse_aux n u (a ∷ r) o.1 (o.0, p)

pub over-reverse : (n : ℕ) (u : List ℕ) → Over n u → Over n (reverse u)
over-reverse n u o = over_reverse_aux n u [] o tt
