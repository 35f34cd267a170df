use Rattle.std.proofs.Common.{◌<◌, length, refl, ap, arith}
use Rattle.std.proofs.lemmas.List.{get_or_default}
use Rattle.automata.specs.declared.row.Row.{Row}
use Rattle.automata.proofs.ShownLaws.{changed-code}
use Rattle.automata.proofs.automaton.Automaton.set_code.Goals as goal

pub returns-then-state-self : goal.returns-then-state-self
returns-then-state-self c =
    let inside : c.args.state < length c.args.self.now.rows = omega (arith, c.args.self.now.wide, c.args.self.now.few, c.if-state-self.true) in
    changed-code c.args.self.now c.args.state _ c.if-state-self.true c.args.code refl (ap (λ (r : Row). r.ends) (get_or_default _ _ _ _ inside))
    _ refl refl refl (λ k b q. refl)
