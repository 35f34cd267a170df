use Rattle.cases.proofs.Fitting.{cases_fit}
use Rattle.cases.proofs.laws.worked_cases.Goals as goal

pub returns : goal.returns
returns c = cases_fit
