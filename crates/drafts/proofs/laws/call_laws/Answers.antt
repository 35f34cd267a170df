use Rattle.drafts.proofs.laws.call_laws.Goals as goal
use Rattle.drafts.proofs.ListLaws.{call_laws_lem}

pub returns : goal.returns
returns g c = call_laws_lem g.K.Kind.model
