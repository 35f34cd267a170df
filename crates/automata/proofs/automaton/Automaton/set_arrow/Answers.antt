use Rattle.std.proofs.Common.{◌<◌, Bool, cond, eqb, length, set, refl, ap, ◌∙◌, arith}
use Rattle.std.proofs.lemmas.List.{get_or_default}
use Rattle.automata.specs.declared.row.Row.{Row}
use Rattle.automata.specs.Held.{blank_row}
use Rattle.automata.proofs.ShownLaws.{sign_count, changed-arrow}
use Rattle.automata.proofs.automaton.Automaton.set_arrow.Goals as goal

pub returns-then-letter-len : goal.returns-then-letter-len
returns-then-letter-len c =
    let d = c.args.self.now in
    let arrow = c.args.arrow in
    let la : c.args.arrow.letter < c.args.self.now.signs.count = omega (arith, c.if-letter-len.true, c.len.ensures, sign_count c.args.self.now.signs) in
    let inside : c.args.arrow.from < length c.args.self.now.rows = omega (arith, c.args.self.now.wide, c.args.self.now.few, c.if-from-self.true) in
    let r = get_or_default d.rows arrow.from c.index-self-from.result blank_row inside in
    changed-arrow d arrow.from c.with_ends.result c.if-from-self.true arrow.letter arrow.to c.args.on c.put-ends.result c.if-to-self.true la
    (c.with_ends.ensures.code ∙ ap (λ (x : Row). x.code) r) (c.with_ends.ensures.ends ∙ ap (λ (x : Row). set x.ends c.args.arrow.letter c.put-ends.result) r)
    (λ k. c.put-ends.ensures.own (omega (arith, c.if-to-self.true, c.args.self.now.few)) k ∙ ap (λ (b : Bool). cond (eqb k c.args.arrow.to) c.args.on b) (c.ends.ensures k))
    _ refl refl refl (λ k b q. refl)
