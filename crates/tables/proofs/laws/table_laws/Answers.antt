use Rattle.tables.proofs.LawsHold.{table_laws_lem}
use Rattle.tables.proofs.laws.table_laws.Goals as goal

pub returns : goal.returns
returns g c = table_laws_lem g.row.S.Denot g.row.R.Denot
