use Rattle.std.proofs.Common.{vec_items, sym, subst}
use Rattle.texts.specs.Any.{letter_of_draft, model_of}
use Rattle.texts.specs.Grammar.{kind_of}
use Rattle.reports.specs.Reports.{DraftPrints, ReadPrints, Prints}
use Rattle.reports.proofs.Adding.{made-map}
use Rattle.reports.proofs.Printing.{read_made}
use Rattle.reports.proofs.pressed.pressed.Goals as goal

pub returns-in-Ok : goal.returns-in-Ok
returns-in-Ok c =
    let text = c.args.text.now in
    let k = letter_of_draft c.in-Ok.draft in
    let d = model_of c.in-Ok.draft in
    let e = c.in-Ok.ensures in
    made-map (λ v. DraftPrints (kind_of (letter_of_draft c.in-Ok.draft)) (letter_of_draft c.in-Ok.draft) (model_of c.in-Ok.draft) 128 (vec_items v)) (λ v. Prints c.args.text.now (vec_items v))
    c.press_any.result (λ v p. subst (λ r. ReadPrints r (vec_items v)) (sym e) (read_made text k d e, p)) c.press_any.ensures
