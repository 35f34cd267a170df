use Rattle.std.proofs.Common.{sym, ap, rules}
use Rattle.automata.specs.Drafts.{size}
use Rattle.automata.specs.Shown.{shown}
use Rattle.texts.specs.Writing.{call_lines, grow_call}
use Rattle.texts.proofs.LinesPut.{puts_as, grow_each, puts_each}
use Rattle.texts.proofs.writing.put_states.Goals as goal

pub returns : goal.returns
returns c =
    let d = shown c.args.automaton.now in
    puts_as (ap (call_lines d.signs) (sym (grow_each d)))
    (puts_each d.signs (size d) (grow_call d) c.state_count.ensures (c.put_each.ensures (λ i. call_lines d.signs (grow_call d i)) (λ i w w' l e. search rules)))
