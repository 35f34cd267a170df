use Rattle.pressing.proofs.Pressing.{law_of_press_lem}
use Rattle.pressing.proofs.laws.law_of_press.Goals as goal

pub returns : goal.returns
returns g c = law_of_press_lem g.K.Kind.model g.row.M-State.Denot g.row.N-State.Denot
