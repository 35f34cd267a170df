use Rattle.std.proofs.Common.{◌-◌, ◌≤◌}
use Rattle.rolls.specs.Loans.{KeepsLoan}
use Rattle.tables.specs.Held.{values_of, cells_of}
use Rattle.tables.specs.Filling.{Filling}
use Rattle.tables.proofs.grid.building.walk.Given as goal

abbrev pub invariant-loop-i : goal.invariant-loop-i
invariant-loop-i g l =
    KeepsLoan l.initial.roll l.roll
    × (l.i ≤ l.roll.len)
    × Filling (g.M.Machine.meaning l.machine) g.M.State.State.blank l.roll.entries.now l.roll.len (values_of l.rows) l.i (cells_of l.rows) l.i 0

abbrev pub decreases-loop-i : goal.decreases-loop-i
decreases-loop-i g l = 128 - l.i
