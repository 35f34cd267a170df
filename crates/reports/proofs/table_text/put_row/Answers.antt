use Rattle.std.proofs.Common.{ℕ, ◌∷◌, decimal, ap, ◌∙◌}
use Rattle.tables.specs.Shown.{shown}
use Rattle.fields.proofs.Placed.{cut_then}
use Rattle.texts.proofs.LinesPut.{puts_as}
use Rattle.reports.proofs.Adding.{row_text}
use Rattle.reports.proofs.Cells.{value_read}
use Rattle.reports.proofs.table_text.put_row.Goals as goal

pub returns-in-Some : goal.returns-in-Some
returns-in-Some c =
    let value = c.from.ensures ∙ value_read (shown c.args.grid.now) c.args.state c.in-Some.value c.requires c.in-Some.ensures in
    puts_as (row_text _ _ _)
    (cut_then c.put.ensures (cut_then (puts_as (ap (λ (n : ℕ). 9 ∷ decimal n) value) c.put-in-Some.ensures)
    (cut_then c.put_cells.ensures c.put_cut.ensures)))
