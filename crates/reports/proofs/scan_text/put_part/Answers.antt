use Rattle.std.proofs.Common.{ℕ, ◌∷◌, decimal, ap, append-nil}
use Rattle.fields.proofs.Placed.{cut_then}
use Rattle.texts.proofs.LinesPut.{puts_as}
use Rattle.reports.proofs.scan_text.put_part.Goals as goal

pub returns : goal.returns
returns c =
    let code = puts_as (ap (λ (n : ℕ). 9 ∷ decimal n) c.from.ensures) c.put.ensures in
    simp append-nil (cut_then c.put_cut.ensures (cut_then c.put_cut-2.ensures code))
