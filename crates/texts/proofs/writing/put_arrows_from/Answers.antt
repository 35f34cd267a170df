use Rattle.std.proofs.Common.{length, ap, rules}
use Rattle.automata.specs.Drafts.{letters}
use Rattle.automata.specs.Shown.{shown}
use Rattle.texts.specs.Writing.{call_lines, links_by}
use Rattle.texts.proofs.LinesPut.{puts_each}
use Rattle.texts.proofs.writing.put_arrows_from.Goals as goal

pub returns : goal.returns
returns c =
    let d = shown c.args.automaton.now in
    let f = links_by d c.args.from in
    puts_each d.signs (letters d) f (ap length c.signs.ensures) (c.put_each.ensures (λ i. call_lines d.signs (f i)) (λ i w w' l e. search rules))
