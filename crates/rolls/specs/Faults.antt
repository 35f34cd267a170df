use Rattle.std.specs.Prelude.{ℕ}
use Rattle.rolls.specs.declared.fault.RollFault.{RollFault}
use Rattle.rolls.specs.declared.fault.RollFault.TheVariants.{Full}

-- the number of each refusal
abbrev pub roll_fault_number : RollFault → ℕ
roll_fault_number Full = 16
