use Rattle.kinds.proofs.Joins.{join_laws_lem}
use Rattle.kinds.proofs.laws.join_laws.Goals as goal

pub returns : goal.returns
returns g c = join_laws_lem g.K.Kind.model
