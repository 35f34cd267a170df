use Rattle.machines.proofs.Building.{build_laws_lem}
use Rattle.machines.proofs.laws.build_laws.Goals as goal

pub returns : goal.returns
returns g c = build_laws_lem g.row.S.Denot g.row.R.Denot
