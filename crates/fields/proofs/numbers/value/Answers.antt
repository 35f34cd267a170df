use Rattle.std.proofs.Common.{◌≡◌, ℕ, ◌+◌, ◌-◌, ◌*◌, ◌<◌, ◌≤◌, true, List, length, get_or, take, ap, ◌∙◌, arith}
use Rattle.std.specs.Str.Parse.{digits_value}
use Rattle.std.specs.Int.{IsInRange}
use Rattle.std.specs.Str.{all_ascii_digits}
use Rattle.std.proofs.lemmas.Int.Digits.{digits_value_more}
use Rattle.std.proofs.lemmas.List.{take_all}
use Rattle.std.proofs.lemmas.Str.Parse.{digit_at, digits_value-take-le}
use Rattle.std.proofs.lemmas.Str.{digit_value_digit}
use Rattle.fields.proofs.Numerals.{digits}
use Rattle.fields.proofs.numbers.value.Goals as goal

module _ (xs : List ℕ) (i : ℕ) (all : all_ascii_digits xs ≡ true) (l : i < length xs) where
  digit : IsInRange 48 57 (get_or xs i 0)
  digit = digit_at xs i (digits.to xs all) l

  -- one digit more
  more : digits_value 10 (take (i + 1) xs) ≡ digits_value 10 (take i xs) * 10 + (get_or xs i 0 - 48)
  more = omega (arith, digits_value_more 10 xs i l, digit_value_digit (get_or xs i 0) digit)

  -- the digits behind it make the number no smaller
  least : digits_value 10 (take i xs) * 10 + (get_or xs i 0 - 48) ≤ digits_value 10 xs
  least = omega (arith, more, digits_value-take-le 10 xs (i + 1) (omega arith))

pub overflow_sub-b : goal.overflow_sub-b
overflow_sub-b c = omega (arith, digit c.args.digits.now c.loop-b.b-index c.requires c.loop-b-test.true)

pub returns-in_err-checked_mul : goal.returns-in_err-checked_mul
returns-in_err-checked_mul c =
    rw c.from_residual.ensures
    (omega (arith, least c.args.digits.now c.loop-b.b-index c.requires c.loop-b-test.true, c.loop-b.invariant, c.in_err-checked_mul.ensures))

pub returns-in_err-total : goal.returns-in_err-total
returns-in_err-total c =
    rw c.from_residual-in_err-total.ensures
    (omega (
      arith,
      least c.args.digits.now c.loop-b.b-index c.requires c.loop-b-test.true,
      c.loop-b.invariant,
      c.in_ok-checked_mul.ensures,
      c.in_err-total.ensures,
    ))

pub loop-b-preserved : goal.loop-b-preserved
loop-b-preserved c =
    omega (
      arith,
      more c.args.digits.now c.loop-b.b-index c.requires c.loop-b-test.true,
      c.loop-b.invariant,
      c.in_ok-checked_mul.ensures,
      c.in_ok-total.ensures,
    )

pub returns : goal.returns
returns c = c.loop-b.invariant ∙ ap (digits_value 10) (take_all c.loop-b.b-index c.args.digits.now c.loop-b-test.false)
