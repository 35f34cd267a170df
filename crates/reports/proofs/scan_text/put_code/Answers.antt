use Rattle.std.proofs.Common.{ℕ, ◌∷◌, decimal, ap}
use Rattle.fields.proofs.Placed.{cut_then}
use Rattle.texts.proofs.LinesPut.{puts_as}
use Rattle.reports.proofs.scan_text.put_code.Goals as goal

pub returns : goal.returns
returns c =
    let code = puts_as (ap (λ (n : ℕ). 9 ∷ decimal n) c.from.ensures) c.put.ensures in
    cut_then c.put_cut.ensures (cut_then code c.put_cut-2.ensures)
