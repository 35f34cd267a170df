use Rattle.std.proofs.Common.{sym, ◌∙◌}
use Rattle.std.proofs.lemmas.Bool.{le-ltb}
use Rattle.automata.proofs.SetLaws.{has-past}
use Rattle.automata.proofs.sets.StateSet.has.Goals as goal

pub returns-else-state-lt32 : goal.returns-else-state-lt32
returns-else-state-lt32 c =
    le-ltb c.args.state 32 c.if-state-lt32.false ∙ sym (has-past c.args.self.now c.args.state c.if-state-lt32.false)
