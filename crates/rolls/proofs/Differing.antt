-- Pairwise different entries, and one more of them.
use Rattle.std.proofs.Common.{◌≡◌, ℕ, ◌+◌, ◌<◌, ◌≤◌, ◌≢◌, List, length, get_or, set, sym, ap, ◌∙◌, ⊎_elim, arith}
use Rattle.std.proofs.lemmas.List.{get_or-set_same, get_or-set_other, get_or_default}
use Rattle.std.proofs.lemmas.Bool.{cases_eq, cases_lt}
use Rattle.rolls.specs.Rolls.{Different, Absent}

-- no entry is in use: nothing to compare
pub different_none : {S : Type 0} (es : List S) → Different es 0
different_none es i j d h = absurd (omega (arith, h.1))

-- an entry that differs from all before it is added
pub different_added : {S : Type 0} (x d : S) (es : List S) (n : ℕ) → n < length es → Absent x d es n → Different es n → Different (set es n x) (n + 1)
different_added {S} x d es n room none old i j e h =
    let low : i < n = omega (arith, h.0, h.1) in
    let ne : i ≢ n = omega arith in
    let same-i : get_or (set es n x) i e ≡ get_or es i e = get_or-set_other es n i x e ne in
    ⊎_elim
    (λ (p : j ≡ n).
    none i low
    (get_or_default es i d e (omega arith) ∙ sym same-i ∙ h.2 ∙ ap (λ k. get_or (set es n x) k e) p ∙ get_or-set_same es n x e room))
    (λ (p : j ≡ n → ⊥).
    old i j e (h.0, omega (arith, h.1), sym same-i ∙ h.2 ∙ get_or-set_other es n j x e p))
    (cases_eq j n)

-- equal entries have equal numbers
pub different_numbers : {S : Type 0} (d : S) (es : List S) (n i j : ℕ) → Different es n → i < n → j < n → get_or es i d ≡ get_or es j d → i ≡ j
different_numbers d es n i j differ hi hj e = ⊎_elim
    (λ (p : i < j). absurd (differ i j d (p, hj, e)))
    (λ (p : j ≤ i). ⊎_elim
    (λ (q : j < i). absurd (differ j i d (q, hi, sym e)))
    (λ (q : i ≤ j). omega arith)
    (cases_lt j i))
    (cases_lt i j)
