use Rattle.std.proofs.Common.{◌≡◌, ℕ, [], ◌∷◌, length, ap, append_assoc, arith}
use Rattle.fields.specs.Pieces.{ended}
use Rattle.automata.specs.Shown.{sign_bytes}
use Rattle.drafts.specs.Words.{tabulate}
use Rattle.machines.specs.Tables.{count}
use Rattle.tables.specs.Shown.{shown}
use Rattle.texts.specs.Grammar.{line_of}
use Rattle.fields.proofs.Placed.{cut_then}
use Rattle.texts.proofs.LinesPut.{puts_as}
use Rattle.reports.specs.Reports.{head_fields, row_fields}
use Rattle.reports.proofs.Adding.{puts_line}
use Rattle.reports.proofs.table_text.TableTextWritten.put.Goals as goal

pub loop-state-preserved : goal.loop-state-preserved
loop-state-preserved c =
    let grid = c.args.self.now.grid.now in
    puts_line 10 c.loop-state.state (λ i. line_of (row_fields (length (sign_bytes grid.signs)) (shown grid) i)) c.loop-state.invariant c.put_row.ensures

pub returns : goal.returns
returns c =
    let grid = c.args.self.now.grid.now in
    let head = head_fields c.args.self.now.letter (sign_bytes grid.signs) (shown grid) in
    let lines = λ (k : ℕ). ended 10 (tabulate k (λ i. line_of (row_fields (length (sign_bytes grid.signs)) (shown grid) i))) in
    let all : c.loop-state.state ≡ count (shown grid) = omega arith in
    puts_as (append_assoc (line_of head) (10 ∷ []) (lines (count (shown grid))))
    (cut_then c.put_head.ensures (puts_as (ap lines all) c.loop-state.invariant))
