use Rattle.std.proofs.Common.{◌≡◌, take}
use Rattle.std.specs.Str.Parse.{digits_value}
use Rattle.fields.proofs.numbers.value.Given as goal

-- the number that the digits passed write
abbrev pub invariant-loop-b : goal.invariant-loop-b
invariant-loop-b l = l.total ≡ digits_value 10 (take l.b-index l.digits)
