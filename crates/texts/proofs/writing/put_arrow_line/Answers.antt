use Rattle.std.proofs.Common.{append_assoc, append-nil}
use Rattle.fields.proofs.Placed.{cut_then}
use Rattle.texts.proofs.writing.put_arrow_line.Goals as goal

pub returns : goal.returns
returns c =
    simp (append-nil, append_assoc)
    (cut_then c.put_cut.ensures (cut_then c.put.ensures
    (cut_then c.put_cut-2.ensures (cut_then c.put-2.ensures c.put_cut-3.ensures))))
