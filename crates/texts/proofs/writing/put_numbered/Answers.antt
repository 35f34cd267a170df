use Rattle.std.proofs.Common.{append-nil}
use Rattle.fields.proofs.Placed.{cut_then}
use Rattle.texts.proofs.writing.put_numbered.Goals as goal

pub returns : goal.returns
returns c = simp append-nil (cut_then c.put_cut.ensures (cut_then c.put.ensures c.put_cut-2.ensures))
