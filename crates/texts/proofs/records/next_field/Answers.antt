use Rattle.texts.proofs.Counts.{next_told}
use Rattle.texts.proofs.records.next_field.Goals as goal

pub returns : goal.returns
returns c = rw c.ok_or.ensures.value (next_told c.args.rest c.cut.result c.cut.ensures.cuts)
