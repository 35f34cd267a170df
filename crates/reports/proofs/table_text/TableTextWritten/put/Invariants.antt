use Rattle.std.proofs.Common.{length}
use Rattle.fields.specs.Pieces.{ended}
use Rattle.fields.specs.Writing.{PutsCut}
use Rattle.automata.specs.Shown.{sign_bytes}
use Rattle.drafts.specs.Words.{tabulate}
use Rattle.tables.specs.Shown.{shown}
use Rattle.texts.specs.Grammar.{line_of}
use Rattle.reports.specs.Reports.{row_fields}
use Rattle.reports.proofs.table_text.TableTextWritten.put.Given as goal

-- the lines of the states before this one are put
abbrev pub invariant-loop-state : goal.invariant-loop-state
invariant-loop-state l =
    PutsCut l.initial.out l.out (ended 10 (tabulate l.state (λ i. line_of (row_fields (length (sign_bytes l.self.grid.now.signs)) (shown l.self.grid.now) i))))
