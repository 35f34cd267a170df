use Rattle.pressing.proofs.Pressing.{press_laws_lem}
use Rattle.pressing.proofs.laws.press_laws.Goals as goal

pub returns : goal.returns
returns g c = press_laws_lem g.K.Kind.model g.row.S.Denot g.row.R.Denot
