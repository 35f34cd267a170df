-- Sets of states: members after a change, and that a set is known by its members.
use Rattle.std.proofs.Common.{◌≡◌, ℕ, zero, suc, ◌-◌, ◌/◌, ◌%◌, ◌^◌, ◌<◌, ◌≤◌, true, false, cond, eqb, sym, refl, ap, ◌∙◌, inl, inr, pow-suc, div-one, arith, pow_mono, shr-shr}
use mathlib.Core.HLevel.{is_prop→PathP}
use native.Mathlib.Bridge.{le_prop}
use native.Mathlib.Nat.{div-eq_of_lt, zero-div}
use lib.Bits.{bit_and, bit_or}
use lib.Pow.{pow-lt}
use Rattle.std.proofs.lemmas.Bool.{eq-eqb, ne_eqb, cases_lt, cases_eq, both_ways}
use Rattle.automata.specs.declared.sets.StateSet.{StateSet}
use Rattle.automata.specs.Sets.{bit, has, no_states}
use Rattle.automata.proofs.Bits.{and_bit, or_bit, own_bit, other_bit, not_bit32}

pub set_bits : (s t : StateSet) → s.bits ≡ t.bits → s ≡ t
set_bits s t e = λ i. record { bits = e i; small = is_prop→PathP (λ j. e j < 2 ^ 32) (λ j. le_prop) s.small t.small i }

pub has-past : (s : StateSet) (p : ℕ) → 32 ≤ p → has s p ≡ false
has-past s p h =
    let l : 2 ^ 32 ≤ 2 ^ p = pow_mono h in
    let z : s.bits / 2 ^ p ≡ 0 = div-eq_of_lt (omega (arith, s.small)) in
    ne_eqb (s.bits / 2 ^ p % 2) 1 (λ e. omega arith)

pub has-none : (p : ℕ) → has no_states p ≡ false
has-none p = ne_eqb (0 / 2 ^ p % 2) 1 (λ e. omega (arith, zero-div (2 ^ p)))

-- the bits of s | 2 ^ p, where m is 2 ^ p as the code has it
pub put_in : (s p m q : ℕ) → m ≡ 2 ^ p → eqb (bit_or s m / 2 ^ q % 2) 1 ≡ cond (eqb q p) true (eqb (s / 2 ^ q % 2) 1)
put_in s p m q e = rw e
    (elim (cases_eq q p) [
      | inl same ↦ rw (same, eq-eqb p p refl) (eq-eqb (bit_or s (2 ^ p) / 2 ^ p % 2) 1 (omega (arith, or_bit s (2 ^ p) p, own_bit p)))
      | inr ne ↦ rw (ne_eqb q p ne)
          (let f : bit_or s (2 ^ p) / 2 ^ q % 2 ≡ s / 2 ^ q % 2 = omega (arith, or_bit s (2 ^ p) q, other_bit p q ne) in ap (λ (b : ℕ). eqb b 1) f)
    ])

-- the bits of s & !2 ^ p
pub put_out : (s p m q : ℕ) → s < 2 ^ 32 → p < 32 → m ≡ 2 ^ p → eqb (bit_and s (4294967295 - m) / 2 ^ q % 2) 1 ≡ cond (eqb q p) false (eqb (s / 2 ^ q % 2) 1)
put_out s p m q small l e = rw e
    (let w : 2 ^ p < 2 ^ 32 = pow-lt l in
    elim (cases_eq q p) [
      | inl same ↦ rw (same, eq-eqb p p refl)
          (let f : bit_and s (4294967295 - 2 ^ p) / 2 ^ p % 2 ≡ 0 = omega (arith, and_bit s (4294967295 - 2 ^ p) p, not_bit32 p (2 ^ p) l w, own_bit p) in
          ap (λ (b : ℕ). eqb b 1) f)
      | inr ne ↦ rw (ne_eqb q p ne)
          (let f : bit_and s (4294967295 - 2 ^ p) / 2 ^ q % 2 ≡ s / 2 ^ q % 2 =
          elim (cases_lt q 32) [
            | inl lq ↦ omega (arith, and_bit s (4294967295 - 2 ^ p) q, not_bit32 q (2 ^ p) lq w, other_bit p q ne)
            | inr g ↦ (let z : s / 2 ^ q ≡ 0 = div-eq_of_lt (let k : 2 ^ 32 ≤ 2 ^ q = pow_mono g in omega arith) in omega (arith, and_bit s (4294967295 - 2 ^ p) q))
          ] in
          ap (λ (b : ℕ). eqb b 1) f)
    ])

-- A number below 2 ^ k is known by its lowest k bits.
by_bits : (k a b : ℕ) → a < 2 ^ k → b < 2 ^ k → ((p : ℕ) → p < k → a / 2 ^ p % 2 ≡ b / 2 ^ p % 2) → a ≡ b
by_bits zero a b la lb h = omega arith
by_bits (suc k) a b la lb h =
    let e = pow-suc 2 k in
    let half : (n p : ℕ) → n / 2 / 2 ^ p ≡ n / 2 ^ suc p = λ n p. shr-shr n 1 p ∙ ap (λ (m : ℕ). n / 2 ^ m) (omega arith) in
    let r : a / 2 ≡ b / 2 = by_bits k (a / 2) (b / 2) (omega arith) (omega arith)
    (λ p l. ap (λ (n : ℕ). n % 2) (half a p) ∙ (h (suc p) (omega arith) ∙ ap (λ (n : ℕ). n % 2) (sym (half b p)))) in
    let z : a % 2 ≡ b % 2 = ap (λ (n : ℕ). n % 2) (sym (div-one a)) ∙ (h 0 (omega arith) ∙ ap (λ (n : ℕ). n % 2) (div-one b)) in
    omega arith

bit_eq : (a b : ℕ) → a < 2 → b < 2 → eqb a 1 ≡ eqb b 1 → a ≡ b
bit_eq zero zero la lb e = refl
bit_eq zero (suc zero) la lb e = absurd (both_ways _ (sym e) refl)
bit_eq (suc zero) zero la lb e = absurd (both_ways _ e refl)
bit_eq (suc zero) (suc zero) la lb e = refl
bit_eq zero (suc (suc b)) la lb e = absurd (omega arith)
bit_eq (suc zero) (suc (suc b)) la lb e = absurd (omega arith)
bit_eq (suc (suc a)) b la lb e = absurd (omega arith)

pub same_bits : (a b : ℕ) → a < 2 ^ 32 → b < 2 ^ 32 → ((p : ℕ) → bit a p ≡ bit b p) → a ≡ b
same_bits a b la lb h = by_bits 32 a b la lb (λ p l. bit_eq (a / 2 ^ p % 2) (b / 2 ^ p % 2) (omega arith) (omega arith) (h p))

-- Two sets with the same members are equal.
pub same_members : (s t : StateSet) → ((p : ℕ) → has s p ≡ has t p) → s ≡ t
same_members s t h = set_bits s t (same_bits s.bits t.bits s.small t.small h)
