use Rattle.std.proofs.Common.{ℕ, List, ap, ap₂}
use Rattle.automata.specs.Shown.{shown}
use Rattle.texts.specs.Grammar.{head_fields, written}
use Rattle.texts.specs.Writing.{ended_line}
use Rattle.texts.proofs.LinesPut.{puts_as, puts_draft}
use Rattle.texts.proofs.writing.AnyDraftWritten.put.Goals as goal

pub returns : goal.returns
returns c =
    let d = shown c.automaton-automaton.result.now in
    let k = c.letter.result in
    puts_as (ap₂ written c.letter.ensures (ap shown c.automaton-automaton.ensures))
    (puts_draft k d (puts_as (ap (λ (signs : List ℕ). ended_line (head_fields k signs)) c.signs.ensures) c.put_head.ensures)
    c.put_states.ensures c.put_entries.ensures c.put_arrows.ensures)
