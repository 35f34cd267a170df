use Rattle.std.proofs.Common.{rules}
use Rattle.automata.specs.Drafts.{size}
use Rattle.automata.specs.Shown.{shown}
use Rattle.texts.specs.Writing.{call_lines, link_call}
use Rattle.texts.proofs.LinesPut.{puts_each}
use Rattle.texts.proofs.writing.put_ends.Goals as goal

pub returns : goal.returns
returns c =
    let d = shown c.args.automaton.now in
    let f = link_call d c.args.from c.args.letter in
    puts_each d.signs (size d) f c.state_count.ensures (c.put_each.ensures (λ i. call_lines d.signs (f i)) (λ i w w' l e. search rules))
