use Rattle.std.proofs.Common.{◌<◌, length, refl, ap, arith}
use Rattle.std.proofs.lemmas.List.{get_or_default}
use Rattle.automata.specs.declared.row.Row.{Row}
use Rattle.automata.proofs.ShownLaws.{added_state}
use Rattle.automata.proofs.automaton.Automaton.add_state.Goals as goal

pub returns-then-self-lt32 : goal.returns-then-self-lt32
returns-then-self-lt32 c =
    let inside : c.args.self.now.count < length c.args.self.now.rows = omega (arith, c.args.self.now.wide, c.if-self-lt32.true) in
    added_state c.args.self.now c.args.code _ c.if-self-lt32.true refl (ap (λ (r : Row). r.ends) (get_or_default _ _ _ _ inside))
    _ refl refl refl (λ k b q. refl)
