use Rattle.std.proofs.Common.{length, decimal}
use Rattle.automata.specs.Shown.{sign_bytes}
use Rattle.machines.specs.Tables.{next}
use Rattle.tables.specs.Shown.{shown}
use Rattle.reports.proofs.Adding.{puts_field}
use Rattle.reports.proofs.table_text.put_cells.Goals as goal

pub loop-letter-preserved : goal.loop-letter-preserved
loop-letter-preserved c =
    puts_field 9 c.loop-letter.letter (λ a. decimal (next (length (sign_bytes c.args.grid.now.signs)) (shown c.args.grid.now) c.args.state a))
    c.loop-letter.invariant c.put_cell.ensures
