use Rattle.std.proofs.Common.{arith}
use Rattle.automata.proofs.ShownLaws.{shown-size}
use Rattle.drafts.specs.Drawn.{drawn}
use Rattle.views.specs.Accepted.{accepted}
use Rattle.views.proofs.DraftReversal.{draft_view_laws}
use Rattle.pressing.proofs.Ends.{draft-ends}
use Rattle.pressing.proofs.press.press_draft.Goals as goal

pub returns-clause-says : goal.returns-clause-says
returns-clause-says g c =
    let d = c.args.draft.now in
    let ok = accepted d.automaton.signs in
    let laws = draft_view_laws g.K.Kind.model (drawn d) (omega (arith, shown-size d.automaton, d.automaton.few)) ok in
    draft-ends g.K.Kind.model (drawn d) ok laws _ _ c.build_twice.result c.build_twice.ensures.ended
