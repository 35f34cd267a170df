use Rattle.std.proofs.Common.{refl}
use Rattle.fields.proofs.Separated.{pieces-one}
use Rattle.texts.proofs.Counts.{not-one}
use Rattle.texts.proofs.records.last_field.Goals as goal

pub returns-in-None : goal.returns-in-None
returns-in-None c = pieces-one 9 c.args.rest.now c.in-None.ensures.cuts

pub returns-in-Some : goal.returns-in-Some
returns-in-Some c = (refl, not-one c.in-Some.ensures.cuts)
