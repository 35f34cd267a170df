-- Numbers from 0 to 255 in decimal digits.
use Rattle.std.specs.Prelude.{ℕ, Bool, cond, ◌&&◌, List, length, Ok, Err, Result, ◌==◌, nat_lt, slice_index}
use Rattle.std.specs.Str.Parse.{digits_value}
use Rattle.std.specs.Str.{all_ascii_digits}
use Rattle.fields.specs.declared.numbers.NumberFault.{NumberFault}
use Rattle.fields.specs.declared.numbers.NumberFault.TheVariants.{Empty, NotDigit, LeadingZero, TooLarge}

-- the number of a fault
abbrev pub fault_number : NumberFault → ℕ
fault_number Empty = 1
fault_number NotDigit = 2
fault_number LeadingZero = 3
fault_number TooLarge = 4

-- a zero before another digit
abbrev pub padded : List ℕ → Bool
padded bs = slice_index bs 0 == 48 && nat_lt 1 (length bs)

-- the number that a field of bytes writes, or the first fault in this order: no byte, a byte that is no digit, a leading zero, more than 255
abbrev pub number_of : List ℕ → Result ℕ NumberFault
number_of bs =
    cond (length bs == 0) (Err Empty)
    (cond (all_ascii_digits bs)
    (cond (padded bs) (Err LeadingZero) (cond (nat_lt (digits_value 10 bs) 256) (Ok (digits_value 10 bs)) (Err TooLarge)))
    (Err NotDigit))
