use Rattle.std.proofs.Common.{arith}
use Rattle.automata.specs.Shown.{sign_bytes}
use Rattle.automata.proofs.ShownLaws.{shown-size}
use Rattle.drafts.specs.Drawn.{drawn}
use Rattle.tables.specs.Shown.{shown}
use Rattle.tables.proofs.GridLaws.{shown-count}
use Rattle.views.specs.Accepted.{accepted}
use Rattle.views.proofs.DraftReversal.{draft_view_laws}
use Rattle.views.proofs.TableReversal.{table_view_laws}
use Rattle.views.proofs.laws.view_laws.Goals as goal

pub returns : goal.returns
returns g c = record {
  draft = λ d. draft_view_laws g.K.Kind.model (drawn d) (omega (arith, shown-size d.automaton, d.automaton.few)) (accepted d.automaton.signs);
  table = λ t. table_view_laws g.K.Kind.model (sign_bytes t.grid.signs) (accepted t.grid.signs) (shown t.grid) (omega (arith, shown-count t.grid, t.grid.few));
}
