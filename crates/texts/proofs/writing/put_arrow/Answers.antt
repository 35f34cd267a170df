use Rattle.std.proofs.Common.{ℕ, List, [], ◌∷◌, get_or, decimal, sym, ap, ◌∙◌}
use Rattle.automata.specs.Shown.{shown}
use Rattle.drafts.specs.Calls.{link}
use Rattle.texts.specs.Writing.{ended_line}
use Rattle.texts.proofs.LinesPut.{puts_as, puts_when, puts_unless}
use Rattle.texts.proofs.writing.put_arrow.Goals as goal

pub returns-then-has_arrow : goal.returns-then-has_arrow
returns-then-has_arrow c =
    let d = shown c.args.automaton.now in
    puts_when d.signs (d.arrow c.args.arrow.from c.args.arrow.letter c.args.arrow.to) (link c.args.arrow.from c.args.arrow.letter c.args.arrow.to ∷ [])
    (sym c.has_arrow.ensures ∙ c.if-has_arrow.true)
    (puts_as (ap (λ (xs : List ℕ). ended_line ((76 ∷ []) ∷ decimal c.args.arrow.from ∷ (get_or xs c.args.arrow.letter 0 ∷ []) ∷ decimal c.args.arrow.to ∷ [])) c.signs.ensures)
    c.put_arrow_line.ensures)

pub returns-else-has_arrow : goal.returns-else-has_arrow
returns-else-has_arrow c =
    let d = shown c.args.automaton.now in
    puts_unless d.signs c.args.out.now (d.arrow c.args.arrow.from c.args.arrow.letter c.args.arrow.to)
    (link c.args.arrow.from c.args.arrow.letter c.args.arrow.to ∷ [])
    (sym c.has_arrow.ensures ∙ c.if-has_arrow.false)
