use Rattle.automata.proofs.HeldEqual.{same_held}
use Rattle.automata.proofs.laws.held_laws.Goals as goal

pub returns : goal.returns
returns c = same_held
