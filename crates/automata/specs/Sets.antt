-- Sets of states, as the bits of one number.
use Rattle.std.specs.Prelude.{ℕ, ◌/◌, ◌%◌, ◌^◌, Bool, ◌==◌}
use Rattle.std.proofs.Common.{lit<}
use Rattle.automata.specs.declared.sets.StateSet.{StateSet}

-- bit p of a number
abbrev pub bit : ℕ → ℕ → Bool
bit n p = n / 2 ^ p % 2 == 1

-- p is a member of s
abbrev pub has : StateSet → ℕ → Bool
has s p = bit s.bits p

abbrev pub no_states : StateSet
no_states = record { bits = 0; small = lit< tt }
