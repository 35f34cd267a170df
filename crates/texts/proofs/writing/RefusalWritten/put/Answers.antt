use Rattle.std.proofs.Common.{◌∷◌, decimal, ap, append_assoc, append-nil}
use Rattle.fields.proofs.Placed.{cut_then}
use Rattle.texts.proofs.LinesPut.{puts_as}
use Rattle.texts.proofs.writing.RefusalWritten.put.Goals as goal

pub returns : goal.returns
returns c =
    let number = puts_as (ap (λ n. 9 ∷ decimal n) c.from.ensures) c.put.ensures in
    let field = puts_as (ap (λ n. 9 ∷ decimal n) c.from-2.ensures) c.put-3.ensures in
    let inner = puts_as (ap (λ n. 9 ∷ decimal n) c.from-3.ensures) c.put-4.ensures in
    simp (append-nil, append_assoc)
    (cut_then c.put_cut.ensures (cut_then number (cut_then c.put-2.ensures (cut_then field (cut_then inner c.put_cut-2.ensures)))))
