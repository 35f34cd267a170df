use Rattle.std.proofs.Common.{[], ◌∷◌, sym, ◌∙◌}
use Rattle.drafts.specs.declared.calls.Call.TheVariants.{Enter}
use Rattle.automata.specs.Shown.{shown}
use Rattle.texts.proofs.LinesPut.{puts_when, puts_unless}
use Rattle.texts.proofs.writing.put_entry.Goals as goal

pub returns-then-is_entry : goal.returns-then-is_entry
returns-then-is_entry c =
    let d = shown c.args.automaton.now in
    puts_when d.signs (d.entry c.args.state) (Enter c.args.state ∷ []) (sym c.is_entry.ensures ∙ c.if-is_entry.true) c.put_numbered.ensures

pub returns-else-is_entry : goal.returns-else-is_entry
returns-else-is_entry c =
    let d = shown c.args.automaton.now in
    puts_unless d.signs c.args.out.now (d.entry c.args.state) (Enter c.args.state ∷ [])
    (sym c.is_entry.ensures ∙ c.if-is_entry.false)
