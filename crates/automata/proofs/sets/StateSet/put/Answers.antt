use Rattle.std.proofs.Common.{Bool, cond, eqb, sym, ap, ◌∙◌}
use Rattle.automata.specs.Sets.{has}
use Rattle.automata.proofs.Bits.{shifted}
use Rattle.automata.proofs.SetLaws.{put_in, put_out}
use Rattle.automata.proofs.sets.StateSet.put.Goals as goal

pub returns-then-member-clause-own : goal.returns-then-member-clause-own
returns-then-member-clause-own c = λ l q.
    put_in c.args.self.bits c.args.state _ q (shifted c.args.state l)
    ∙ ap (λ (b : Bool). cond (eqb q c.args.state) b (has c.args.self q)) (sym c.if-member.true)

pub returns-clause-own : goal.returns-clause-own
returns-clause-own c = λ l q.
    put_out c.args.self.bits c.args.state _ q c.args.self.small l (shifted c.args.state l)
    ∙ ap (λ (b : Bool). cond (eqb q c.args.state) b (has c.args.self q)) (sym c.if-member.false)
