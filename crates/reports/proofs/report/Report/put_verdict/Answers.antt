use Rattle.std.proofs.Common.{ℕ, [], ◌∷◌, ap, append_assoc, append-nil}
use Rattle.fields.proofs.Placed.{cut_then}
use Rattle.texts.proofs.LinesPut.{puts_as}
use Rattle.reports.proofs.report.Report.put_verdict.Goals as goal

pub returns : goal.returns
returns c =
    let letter = puts_as (ap (λ (b : ℕ). 9 ∷ b ∷ []) c.verdict_byte.ensures) c.put_cut-2.ensures in
    simp (append-nil, append_assoc)
    (cut_then c.put_cut.ensures (cut_then c.put.ensures (cut_then letter
    (cut_then c.put_option.ensures (cut_then c.put_option-2.ensures c.put_cut-3.ensures)))))
