-- What two placings leave of a roll in which no entry was in use.
use Rattle.std.proofs.Common.{◌≡◌, ℕ, ◌<◌, ◌≤◌, true, false, ◌≢◌, ◌⊎◌, List, length, get_or, set, is_ok, Decides, Ok, Err, Result, sym, refl, ap, ◌∙◌, subst, inl, inr, ⊎_elim, arith}
use Rattle.std.proofs.lemmas.List.{length-set, get_or-set_same, set_past}
use Rattle.std.proofs.lemmas.Bool.{both_ways, cases_lt}
use Rattle.rolls.specs.Rolls.{Different, Absent, Found, Added, Placed}
use Rattle.rolls.proofs.Differing.{different_none}
use Rattle.rolls.proofs.RollLaws.{placed_new, placed-again, placed-refused, placed_different}

-- es, n: as the roll was before; es₁, n₁ after x was placed; es₂, n₂ after y was placed too
module _ {S E : Type 0} (x y d : S) (es : List S) (n : ℕ) (es₁ : List S) (n₁ : ℕ) (es₂ : List S) (n₂ : ℕ) (r s : Result ℕ E)
    (none : n ≡ 0) (first : Placed x d es n es₁ n₁ r) (second : Placed y d es₁ n₁ es₂ n₂ s) where
  no-entry : Absent x d es n
  no-entry k h = absurd (omega arith)

  -- the first stands in the first place, where there is one
  pub first-placed : 0 < length es → (r ≡ Ok 0) × (es₁ ≡ set es 0 x) × (n₁ ≡ 1)
  first-placed some =
      let w = placed_new x d es n es₁ n₁ r no-entry (omega arith) first in
      (w.0 ∙ ap (λ (k : ℕ). Ok k) none, w.1 ∙ ap (λ k. set es k x) none, omega (arith, w.2))

  no_place : length es ≡ 0 → (es₁ ≡ es) × (n₁ ≡ 0)
  no_place full = let w = placed-refused x d es n es₁ n₁ r no-entry (omega arith) first in (w.1, omega (arith, w.2))

  first-there : 0 < length es → get_or es₁ 0 d ≡ x
  first-there some = ap (λ l. get_or l 0 d) (first-placed some).1 ∙ get_or-set_same es 0 x d some

  first-long : 0 < length es → length es₁ ≡ length es
  first-long some = ap length (first-placed some).1 ∙ length-set es 0 x

  -- nothing is placed where there is no place
  refused_all : length es ≡ 0 → (is_ok s ≡ false) × (es₂ ≡ es)
  refused_all full =
      let o = no_place full in
      let w = placed-refused y d es₁ n₁ es₂ n₂ s (λ k h. absurd (omega (arith, o.1))) (omega (arith, o.1, ap length o.0)) second in
      (w.0, w.1 ∙ o.0)

  -- an equal entry is not added again
  pub again : 0 < length es → x ≡ y → (s ≡ Ok 0) × (es₂ ≡ set es 0 x) × (n₂ ≡ 1)
  again some e =
      let o = first-placed some in
      let before : Different es n = subst (λ (k : ℕ). Different es k) (sym none) (different_none es) in
      let differ : Different es₁ n₁ = placed_different x d es n es₁ n₁ r first before in
      let w = placed-again y d es₁ n₁ es₂ n₂ s 0 differ (omega (arith, o.2)) (first-there some ∙ e) second in
      (w.0, w.1 ∙ o.1, w.2 ∙ o.2)

  first_alone : 0 < length es → x ≢ y → Absent y d es₁ n₁
  first_alone some ne k h e =
      let z : k ≡ 0 = omega (arith, (first-placed some).2) in
      ne (sym (first-there some) ∙ ap (λ i. get_or es₁ i d) (sym z) ∙ e)

  -- another entry is added behind it
  pub added : 1 < length es → x ≢ y → (s ≡ Ok 1) × (es₂ ≡ set (set es 0 x) 1 y) × (n₂ ≡ 2)
  added room ne =
      let some : 0 < length es = omega arith in
      let o = first-placed some in
      let w = placed_new y d es₁ n₁ es₂ n₂ s (first_alone some ne) (omega (arith, o.2, first-long some)) second in
      (w.0 ∙ ap (λ (k : ℕ). Ok k) o.2, w.1 ∙ ap (λ k. set es₁ k y) o.2 ∙ ap (λ l. set l 1 y) o.1, omega (arith, w.2, o.2))

  -- or is refused, where there is one place only
  pub other_refused : length es ≡ 1 → x ≢ y → (is_ok s ≡ false) × (es₂ ≡ set es 0 x) × (n₂ ≡ 1)
  other_refused full ne =
      let some : 0 < length es = omega arith in
      let o = first-placed some in
      let w = placed-refused y d es₁ n₁ es₂ n₂ s (first_alone some ne) (omega (arith, o.2, first-long some)) second in
      (w.0, w.1 ∙ o.1, w.2 ∙ o.2)

  pub equal_placed : x ≡ y → es₂ ≡ set es 0 x
  equal_placed e =
      elim (cases_lt 0 (length es)) [
        | inl some ↦ (again some e).1
        | inr full ↦ (refused_all (omega arith)).1 ∙ sym (set_past es 0 x (omega arith))
      ]

  pub other_placed : x ≢ y → es₂ ≡ set (set es 0 x) 1 y
  other_placed ne =
      elim (cases_lt 1 (length es)) [
        | inl room ↦ (added room ne).1
        | inr full ↦ alone (cases_lt 0 (length es)) full ∙ sym (set_past (set es 0 x) 1 y (simp length-set full))
      ]
    where
      alone : (0 < length es) ⊎ (length es ≤ 0) → length es ≤ 1 → es₂ ≡ set es 0 x
      alone (inl some) full = (other_refused (omega arith) ne).1
      alone (inr none) full = (refused_all (omega arith)).1 ∙ sym (set_past es 0 x (omega arith))

  -- whether both are there
  pub both_there : Decides (is_ok s) ((1 ≤ length es) × ((x ≡ y) ⊎ (2 ≤ length es)))
  both_there = (there s second (cases_lt 0 (length es)), λ h. held s second h.0 h.1)
    where
      there : (t : Result ℕ E) → Placed y d es₁ n₁ es₂ n₂ t → (0 < length es) ⊎ (length es ≤ 0) → is_ok t ≡ true → (1 ≤ length es) × ((x ≡ y) ⊎ (2 ≤ length es))
      there (Ok i) w (inl some) ok = ⊎_elim
          (λ (f : Found y d es₁ n₁ es₂ n₂ i).
          let z : i ≡ 0 = omega (arith, f.below, (first-placed some).2) in
          (some, inl (sym (first-there some) ∙ ap (λ k. get_or es₁ k d) (sym z) ∙ f.there)))
          (λ (f : Added y d es₁ n₁ es₂ n₂ i). (some, inr (omega (arith, f.room, (first-placed some).2, first-long some))))
          w
      there (Ok i) w (inr none) ok = ⊎_elim
          (λ (f : Found y d es₁ n₁ es₂ n₂ i). absurd (omega (arith, f.below, (no_place (omega arith)).1)))
          (λ (f : Added y d es₁ n₁ es₂ n₂ i). absurd (omega (arith, f.room, ap length (no_place (omega arith)).0)))
          w
      there (Err e) f some ok = absurd (both_ways false refl ok)

      held : (t : Result ℕ E) → Placed y d es₁ n₁ es₂ n₂ t → 1 ≤ length es → (x ≡ y) ⊎ (2 ≤ length es) → is_ok t ≡ true
      held (Ok i) w some which = refl
      held (Err e) f some (inl same) = absurd (f.absent 0 (omega (arith, (first-placed some).2)) (first-there some ∙ same))
      held (Err e) f some (inr room) = absurd (omega (arith, f.full, (first-placed some).2, first-long some))
