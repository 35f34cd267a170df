use Rattle.std.proofs.Common.{length, decimal}
use Rattle.fields.specs.Pieces.{behind}
use Rattle.fields.specs.Writing.{PutsCut}
use Rattle.automata.specs.Shown.{sign_bytes}
use Rattle.drafts.specs.Words.{tabulate}
use Rattle.machines.specs.Tables.{next}
use Rattle.tables.specs.Shown.{shown}
use Rattle.reports.proofs.table_text.put_cells.Given as goal

-- the cells before this letter are put
abbrev pub invariant-loop-letter : goal.invariant-loop-letter
invariant-loop-letter l =
    PutsCut l.initial.out l.out (behind 9 (tabulate l.letter (λ a. decimal (next (length (sign_bytes l.grid.signs)) (shown l.grid) l.state a))))
