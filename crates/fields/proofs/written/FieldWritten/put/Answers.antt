use Rattle.fields.proofs.Placed.{cut_then}
use Rattle.fields.proofs.written.FieldWritten.put.Goals as goal

pub returns : goal.returns
returns c = cut_then c.put_cut.ensures c.put.ensures
