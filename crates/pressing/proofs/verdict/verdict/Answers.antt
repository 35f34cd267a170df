use Rattle.std.proofs.Common.{◌<◌, ap, ◌∙◌, arith}
use Rattle.automata.specs.declared.automaton.Automaton.{Automaton}
use Rattle.automata.specs.Drafts.{size}
use Rattle.automata.specs.Shown.{shown}
use Rattle.drafts.specs.Drawn.{drawn}
use Rattle.views.specs.Accepted.{accepted}
use Rattle.pressing.specs.Pressed.{left_of}
use Rattle.pressing.proofs.Atomics.{verdict_means}
use Rattle.pressing.proofs.verdict.verdict.Goals as goal

pub returns-clause-means : goal.returns-clause-means
returns-clause-means g c =
    let d = c.args.draft.now in
    let press = c.press_draft.new in
    let n = c.state_count.ensures ∙ ap (λ (a : Automaton). size (shown a)) c.automaton-automaton.ensures in
    let inside : c.args.state < size (drawn d) = omega (arith, n, c.if-state-state_count.false) in
    verdict_means g.K.Kind.model (drawn d) (accepted d.automaton.signs) (left_of press.back press.columns) (left_of press.last press.chart) c.in_ok-press_draft.ensures.ended c.args.state inside
    c.judge.result c.judge.ensures
