use Rattle.std.proofs.Common.{rules}
use Rattle.views.proofs.Reaches.{started}
use Rattle.views.proofs.forward_draft.ForwardDraftMachine.start.Goals as goal

-- by members: whatever set has those of the entry states is the right one
pub returns : goal.returns
returns g c = started c.args.self.now.draft.now.automaton _ (λ p. Prim.search rules)
