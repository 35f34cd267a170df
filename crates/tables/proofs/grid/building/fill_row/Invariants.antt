use Rattle.std.proofs.Common.{◌+◌, ◌<◌}
use Rattle.rolls.specs.Loans.{KeepsLoan}
use Rattle.tables.specs.Held.{values_of, cells_of}
use Rattle.tables.specs.Filling.{Filling}
use Rattle.tables.proofs.grid.building.fill_row.Given as goal

abbrev pub invariant-loop-letter : goal.invariant-loop-letter
invariant-loop-letter g l =
    KeepsLoan l.initial.roll l.roll
    × (l.i < l.roll.len)
    × Filling (g.M.Machine.meaning l.machine) g.M.State.State.blank l.roll.entries.now l.roll.len (values_of l.rows) (l.i + 1) (cells_of l.rows) l.i l.letter
