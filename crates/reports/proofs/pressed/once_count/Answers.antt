use Rattle.std.proofs.Common.{◌≡◌, length, refl, ap, ◌∙◌, sym, subst, is_some, unwrap_or, Some, Ok, Err, Option, Result}
use Rattle.automata.specs.Sets.{no_states}
use Rattle.drafts.specs.Drawn.{drawn}
use Rattle.machines.specs.Tables.{count}
use Rattle.pressing.specs.Pressed.{left_of}
use Rattle.std.proofs.lemmas.Bool.{both_ways}
use Rattle.std.specs.Result.{result_ok}
use Rattle.tables.proofs.GridLaws.{shown-count}
use Rattle.tables.specs.Builds.{Ended}
use Rattle.tables.specs.Shown.{shown}
use Rattle.tables.specs.declared.grid.Grid.{Grid}
use Rattle.views.specs.Accepted.{accepted}
use Rattle.views.specs.DraftViews.{forward_draft_model}
use Rattle.views.specs.Those.{reached_set}
use lib.ListN.{length-replicate}
use Rattle.reports.proofs.pressed.once_count.Goals as goal

ok_there : {T E : Type 0} (r : Result T E) (x : T) → result_ok r ≡ Some x → r ≡ Ok x
ok_there (Ok y) x e = ap Ok (ap (λ (o : Option _). unwrap_or o y) e)
ok_there (Err y) x e = absurd (both_ways _ refl (ap is_some e))

pub returns : goal.returns
returns g c =
    let table = c.once.new.table in
    let roll = c.once.new.roll in
    let m = forward_draft_model g.K.Kind.model (drawn c.args.draft.now) (accepted c.args.draft.now.automaton.signs) in
    let made = ok_there c.once.result c.in_ok-ok.field-0 (sym c.ok.ensures.value ∙ c.in_ok-ok.was) in
    let ended = subst (Ended m (reached_set no_states) table.grid roll.entries.now roll.len) made c.once.ensures.ended in
    let long = c.once.ensures.kept.long ∙ (ap length c.fresh-roll.ensures.items ∙ length-replicate (length c.args.sets.now) (reached_set no_states)) in
    (left_of table roll, ended, long, c.state_count.ensures ∙ (ap (λ (t : Grid). count (shown t)) c.grid.ensures ∙ shown-count table.grid))
