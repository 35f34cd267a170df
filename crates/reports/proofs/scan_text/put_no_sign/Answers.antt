use Rattle.std.proofs.Common.{append-nil}
use Rattle.fields.proofs.Placed.{cut_then}
use Rattle.reports.proofs.scan_text.put_no_sign.Goals as goal

pub returns : goal.returns
returns c = simp append-nil (cut_then c.put_cut.ensures c.put.ensures)
