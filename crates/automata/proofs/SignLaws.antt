-- The rules of sign lists as tests and as facts.
use Rattle.std.proofs.Common.{◌≡◌, ℕ, ◌<◌, ◌≤◌, Bool, true, leb, List, length, get_or, Some, None, Decides, sym, refl, ◌∙◌, inl, inr, arith}
use Rattle.std.proofs.lemmas.Bool.{leb-true, le-leb, cases_Bool}
use Rattle.std.proofs.lemmas.Bool.Decides.{Decides-and, Decides-not, Decides-eqb, Decides-below_and}
use Rattle.automata.specs.declared.faults.SignFault.TheVariants.{Count, Byte}
use Rattle.automata.specs.Tests.{every}
use Rattle.automata.specs.Signs.{counted, distinct, sign_fault, Visible, Apart, BlankPast}
use Rattle.automata.proofs.Placed.{placed, placed-at, placed-past}

decides_leb : (a b : ℕ) → Decides (leb a b) (a ≤ b)
decides_leb a b = (leb-true a b, le-leb a b)

pub decides_counted : (xs : List ℕ) → Decides (counted xs) ((1 ≤ length xs) × (length xs ≤ 16))
decides_counted xs = Decides-and _ _ (decides_leb 1 (length xs)) (decides_leb (length xs) 16)

decides_every : (f : ℕ → Bool) (P : ℕ → Type 0) → ((k : ℕ) → Decides (f k) (P k)) → (n : ℕ) → Decides (every n f) ((k : ℕ) → k < n → P k)
decides_every f P each = Decides-below_and f P (λ n. every n f) each refl (λ _. refl)

-- the sign at k keeps the rules
abbrev Good : List ℕ → ℕ → Type 0
Good xs k = ((33 ≤ get_or xs k 0) × (get_or xs k 0 ≤ 126)) × ((j : ℕ) → j < k → get_or xs j 0 ≡ get_or xs k 0 → ⊥)

decides_distinct : (xs : List ℕ) → Decides (distinct xs) ((k : ℕ) → k < length xs → Good xs k)
decides_distinct xs =
    decides_every _ (Good xs)
    (λ k. Decides-and _ _ (Decides-and _ _ (decides_leb 33 (get_or xs k 0)) (decides_leb (get_or xs k 0) 126))
    (decides_every _ (λ j. get_or xs j 0 ≡ get_or xs k 0 → ⊥) (λ j. Decides-not _ (Decides-eqb (get_or xs j 0) (get_or xs k 0))) k))
    (length xs)

pub distinct_from : (xs : List ℕ) → Visible xs (length xs) → Apart xs (length xs) → distinct xs ≡ true
distinct_from xs v a = (decides_distinct xs).1 (λ k l. (v k l, a k l))

pub visible_from : (xs : List ℕ) → distinct xs ≡ true → Visible xs (length xs)
visible_from xs e = λ k l. ((decides_distinct xs).0 e k l).0

pub apart_from : (xs : List ℕ) → distinct xs ≡ true → Apart xs (length xs)
apart_from xs e = λ k l. ((decides_distinct xs).0 e k l).1

pub fault-none : (xs : List ℕ) → 1 ≤ length xs → length xs ≤ 16 → Visible xs (length xs) → Apart xs (length xs) → sign_fault xs ≡ None
fault-none xs some few v a = rw ((decides_counted xs).1 (some, few), distinct_from xs v a) refl

pub fault_byte : (xs : List ℕ) → 1 ≤ length xs → length xs ≤ 16 → (k : ℕ) → k < length xs → (Good xs k → ⊥) → sign_fault xs ≡ Some Byte
fault_byte xs some few k l h =
    elim (cases_Bool (distinct xs)) [
      | inl t ↦ absurd (h ((decides_distinct xs).0 t k l))
      | inr f ↦ rw ((decides_counted xs).1 (some, few), f) refl
    ]

-- what no fault says
pub accepted-parts : (xs : List ℕ) → sign_fault xs ≡ None → (counted xs ≡ true) × (distinct xs ≡ true)
accepted-parts xs e =
    elim (cases_Bool (counted xs)) [
      | inl t ↦ elim (cases_Bool (distinct xs)) [
        | inl u ↦ (t, u)
        | inr f ↦ absurd (let z : ◌≡◌ {A = ℕ} 0 1 = (let w : sign_fault xs ≡ Some Byte = rw (t, f) refl in cc) in omega arith)
      ]
      | inr f ↦ absurd (let z : ◌≡◌ {A = ℕ} 0 1 = (let w : sign_fault xs ≡ Some Count = rw f refl in cc) in omega arith)
    ]

-- the signs in 16 places are 0 past their number
pub placed-blank : (xs : List ℕ) → BlankPast (placed 16 xs 0) (length xs)
placed-blank xs k l = placed-past 16 xs 0 k l

-- and keep the rules too, where there are no more of them
module _ (xs : List ℕ) (few : length xs ≤ 16) where
  pub placed-visible : Visible xs (length xs) → Visible (placed 16 xs 0) (length xs)
  placed-visible v k l = rw (placed-at 16 xs 0 k (omega arith)) (v k l)

  pub placed-apart : Apart xs (length xs) → Apart (placed 16 xs 0) (length xs)
  placed-apart a k l j lj e = a k l j lj (sym (placed-at 16 xs 0 j (omega arith)) ∙ (e ∙ placed-at 16 xs 0 k (omega arith)))
