use Rattle.fields.proofs.Placed.{cut_then}
use Rattle.reports.proofs.report.ReportWritten.put.Goals as goal

pub returns : goal.returns
returns c = cut_then c.put.ensures c.put_verdict.ensures
