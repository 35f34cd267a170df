use Rattle.fields.proofs.Placed.{cut_then}
use Rattle.reports.proofs.scan_text.ScanWritten.put.Goals as goal

pub returns : goal.returns
returns c = cut_then c.put_value.ensures (cut_then c.put_cut.ensures (cut_then c.put_longest.ensures c.put_cut-2.ensures))
