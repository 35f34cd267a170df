use Rattle.std.proofs.Common.{ap, arith}
use Rattle.views.specs.declared.states.Reached.{Reached}
use Rattle.views.specs.Those.{same_reached}
use Rattle.views.proofs.states.ReachedState.same.Goals as goal

pub returns : goal.returns
returns c = (
  λ e. same_reached c.args.self.now c.args.other.now (Prim.grind arith),
  λ e. let bits = ap (λ (x : Reached). x.set.bits) e in Prim.grind arith,
)
