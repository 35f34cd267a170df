-- A field reads as a number just where it is the number's decimal digits.
use Rattle.std.proofs.Common.{◌≡◌, ℕ, ◌^◌, ◌<◌, ◌≤◌, true, false, eqb, ltb, ◌⊎◌, ◌↔◌, List, length, get_or, Ok, Err, decimal, Result, sym, ap, ◌∙◌, inl, ⊎_elim, arith}
use Rattle.std.specs.Str.Parse.{digits_value}
use Rattle.std.specs.Str.{all_ascii_digits}
use Rattle.std.proofs.lemmas.Bool.{eqb-false, ne_eqb, ltb-true, lt-ltb, le-ltb, and_left, and_right, and_cases, ltb-false, cases_eq, cond-true, cond-false, cond_both}
use Rattle.std.proofs.lemmas.Str.Parse.{IsNumeralModel, tells_all_ascii_digits, numerals_by_value, not_in_digits}
use Rattle.std.proofs.lemmas.Fmt.{decimal-digits_value, digits_decimal, digits_value-decimal, decimal_nonempty, length-decimal-le, first_decimal}
use Rattle.fields.specs.declared.numbers.NumberFault.{NumberFault}
use Rattle.fields.specs.declared.numbers.NumberFault.TheVariants.{Empty, NotDigit, LeadingZero, TooLarge}
use Rattle.fields.specs.Numbers.{padded, number_of}
use Rattle.fields.specs.Pieces.{Free}

-- texts of digits, and the number that one writes
pub digits : IsNumeralModel (λ ds. all_ascii_digits ds ≡ true) (digits_value 10)
digits = numerals_by_value (λ ds. all_ascii_digits ds ≡ true) tells_all_ascii_digits

-- ---- the digits of a number

pub length-decimal : (n : ℕ) → n < 1000 → (0 < length (decimal n)) × (length (decimal n) ≤ 3)
length-decimal n h = (decimal_nonempty n (omega arith), length-decimal-le 3 n (omega arith) (omega arith) (omega arith))

-- no byte but a digit stands in the digits of a number
pub decimal-free : (b n : ℕ) → (b < 48) ⊎ (57 < b) → n < 2 ^ 64 → Free b (decimal n)
decimal-free b n out h = not_in_digits digits (decimal n) b (digits_decimal digits n h) (λ i. ⊎_elim (λ l. omega arith) (λ l. omega arith) out)

pub decimal_free_tab : (n : ℕ) → n < 2 ^ 64 → Free 9 (decimal n)
decimal_free_tab n h = decimal-free 9 n (inl (omega arith)) h

pub decimal_free_newline : (n : ℕ) → n < 2 ^ 64 → Free 10 (decimal n)
decimal_free_newline n h = decimal-free 10 n (inl (omega arith)) h

-- no leading zero stands in them
decimal_not_padded : (n : ℕ) → n < 2 ^ 64 → padded (decimal n) ≡ false
decimal_not_padded n h =
    ⊎_elim
    (λ (z : n ≡ 0). and_right (eqb (get_or (decimal n) 0 0) 48) (ltb 1 (length (decimal n))) (le-ltb 1 (length (decimal n)) (length-decimal-le 1 n (omega arith) (omega arith) h)))
    (λ (p : n ≡ 0 → ⊥). and_left (eqb (get_or (decimal n) 0 0) 48) (ltb 1 (length (decimal n))) (ne_eqb (get_or (decimal n) 0 0) 48 (λ e. omega (arith, first_decimal n (omega arith) h))))
    (cases_eq n 0)

-- ---- the number of its digits

number_small : (bs : List ℕ) → eqb (length bs) 0 ≡ false → all_ascii_digits bs ≡ true → padded bs ≡ false → digits_value 10 bs < 256 → number_of bs ≡ Ok (digits_value 10 bs)
number_small bs some d p h =
    cond-false (eqb (length bs) 0) _ _ some
    ∙ (cond-true (all_ascii_digits bs) _ _ d ∙ (cond-false (padded bs) _ _ p ∙ cond-true (ltb (digits_value 10 bs) 256) _ _ (lt-ltb (digits_value 10 bs) 256 h)))

pub number-decimal : (n : ℕ) → n < 256 → number_of (decimal n) ≡ Ok n
number-decimal n h =
    let v : digits_value 10 (decimal n) ≡ n = digits_value-decimal digits n (omega arith) in
    number_small (decimal n) (ne_eqb (length (decimal n)) 0 (λ e. omega (arith, decimal_nonempty n (omega arith))))
    (digits_decimal digits n (omega arith)) (decimal_not_padded n (omega arith)) (omega arith)
    ∙ ap Ok v

-- ---- what is read is the digits of the number

-- an answer r says this of the field
abbrev Says : List ℕ → ℕ → Result ℕ NumberFault → Type 0
Says bs n r = r ≡ Ok n → (n < 256) × (bs ≡ decimal n)

no_number : (bs : List ℕ) (n : ℕ) (f : NumberFault) → Says bs n (Err f)
no_number bs n f e = let z : ◌≡◌ {A = ℕ} 0 1 = cc in absurd (omega arith)

alone : (bs : List ℕ) → padded bs ≡ false → 0 < length bs → get_or bs 0 0 ≡ 48 → length bs ≡ 1
alone bs p some e =
    ⊎_elim (λ (q : eqb (get_or bs 0 0) 48 ≡ false). absurd (eqb-false (get_or bs 0 0) 48 q e)) (λ (q : ltb 1 (length bs) ≡ false). omega (arith, ltb-false 1 (length bs) q))
    (and_cases (eqb (get_or bs 0 0) 48) (ltb 1 (length bs)) p)

its_digits : (bs : List ℕ) (n : ℕ) → eqb (length bs) 0 ≡ false → all_ascii_digits bs ≡ true → padded bs ≡ false → ltb (digits_value 10 bs) 256 ≡ true → Says bs n (Ok (digits_value 10 bs))
its_digits bs n some all p small e =
    let v : digits_value 10 bs ≡ n = cc in
    let lt : digits_value 10 bs < 256 = ltb-true (digits_value 10 bs) 256 small in
    let len : 0 < length bs = omega (arith, eqb-false (length bs) 0 some) in
    (omega arith, sym (decimal-digits_value digits bs all len (alone bs p len) (omega arith)) ∙ ap decimal v)

decimal-number : (bs : List ℕ) (n : ℕ) → Says bs n (number_of bs)
decimal-number bs n =
    cond_both (eqb (length bs) 0) _ _ (Says bs n) (λ _. no_number bs n Empty)
    (λ some. cond_both (all_ascii_digits bs) _ _ (Says bs n)
    (λ all. cond_both (padded bs) _ _ (Says bs n) (λ _. no_number bs n LeadingZero)
    (λ p. cond_both (ltb (digits_value 10 bs) 256) _ _ (Says bs n) (its_digits bs n some all p) (λ _. no_number bs n TooLarge)))
    (λ _. no_number bs n NotDigit))

pub number-reads : (bs : List ℕ) (n : ℕ) → (number_of bs ≡ Ok n) ↔ ((n < 256) × (bs ≡ decimal n))
number-reads bs n = (decimal-number bs n, λ h. ap number_of h.1 ∙ number-decimal n h.0)

-- the same of what a function answers
pub answer-reads : (bs : List ℕ) (r : Result ℕ NumberFault) → r ≡ number_of bs → (n : ℕ) → (r ≡ Ok n) ↔ ((n < 256) × (bs ≡ decimal n))
answer-reads bs r e n = (λ h. (number-reads bs n).0 (sym e ∙ h), λ h. e ∙ (number-reads bs n).1 h)
