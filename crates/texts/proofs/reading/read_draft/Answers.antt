use Rattle.std.proofs.Common.{◌≡◌, ℕ, ◌≤◌, true, List, ◌∷◌, length, Ok, Err, Result, sym, ap, ◌∙◌, subst, inr, rules}
use Rattle.std.proofs.lemmas.Result.{err_from_is_err_and}
use Rattle.automata.specs.declared.signs.Signs.{Signs}
use Rattle.automata.specs.Drafts.{fresh}
use Rattle.automata.specs.Shown.{sign_bytes}
use Rattle.texts.specs.declared.letters.KindLetter.{KindLetter}
use Rattle.texts.specs.declared.faults.LineFault.{LineFault}
use Rattle.texts.specs.declared.faults.TextFault.{TextFault}
use Rattle.texts.specs.declared.faults.TextFault.TheVariants.{Line}
use Rattle.texts.specs.declared.any.AnyDraft.{AnyDraft}
use Rattle.texts.specs.Grammar.{kind_of}
use Rattle.texts.specs.Reading.{read_all, read_text, draft_after_lines, head_of_line, as_drawn, lines_in, line_ended}
use Rattle.texts.specs.Gives.{HeadRead, RestRead, DraftRead}
use Rattle.texts.proofs.Outcomes.{placed-fault, placed-value}
use Rattle.texts.proofs.Texts.{text-lines, all_head, all_head-fault}
use Rattle.texts.proofs.Turns.{left_cut}
use Rattle.texts.proofs.reading.read_draft.Goals as goal

-- the text as its first line and the others
opened : (text l : List ℕ) (ls : List (List ℕ)) → length text ≤ 32768 → line_ended text ≡ true → lines_in text ≡ l ∷ ls → read_text text ≡ read_all (l ∷ ls)
opened text l ls short ended cut = text-lines text short ended ∙ ap read_all cut

-- what the others give is what the text gives
given : (text rest : List ℕ) (k : KindLetter) (signs : List ℕ) (r : Result AnyDraft TextFault)
    → read_text text ≡ as_drawn k (draft_after_lines (kind_of k) 2 (fresh signs) (lines_in rest)) → RestRead k signs rest r → DraftRead text r
given text rest k signs (Ok d) e h = e ∙ h
given text rest k signs (Err x) e h = e ∙ h

-- what the first line gives
faulty : (l : List ℕ) (r : Result (KindLetter × Signs) LineFault) (x : LineFault) → r ≡ Err x → HeadRead l r → head_of_line l ≡ Err x
faulty l r x e h = subst (HeadRead l) e h

named : (l : List ℕ) (r : Result (KindLetter × Signs) LineFault) (k : KindLetter) (signs : Signs) → r ≡ Ok (k, signs) → HeadRead l r → head_of_line l ≡ Ok (k, sign_bytes signs)
named l r k signs e h = subst (HeadRead l) e h

pub returns-in_err-kind : goal.returns-in_err-kind
returns-in_err-kind c =
    let p = err_from_is_err_and c.from_residual.result c.from_residual.ensures.1 in
    let text = c.args.text.now in
    let l = c.in-Some.line.now in
    let ls = lines_in c.in-Some.rest.now in
    let x = c.in_err-kind.field-0.0 in
    let ended : line_ended c.args.text.now ≡ true = sym c.if-not-is_ended.ensures in
    let q = placed-fault 1 c.read_head.result x c.in_err-kind.ensures.cases (λ e k. search rules) in
    let f = left_cut c.in-Some.ensures.cuts (inr ended) in
    rw (p.1, p.2) (opened text l ls c.if-text-gt-LIMIT.false ended f.lines
    ∙ (all_head-fault l ls x.1 (faulty l c.read_head.result x.1 q.1 c.read_head.ensures) ∙ ap (λ (n : ℕ). Err (Line n c.in_err-kind.field-0.0.1)) (sym q.0)))

pub read_rest-requires : goal.read_rest-requires
read_rest-requires c = (left_cut c.in-Some.ensures.cuts (inr (sym c.if-not-is_ended.ensures))).rest

pub returns : goal.returns
returns c =
    let text = c.args.text.now in
    let l = c.in-Some.line.now in
    let ls = lines_in c.in-Some.rest.now in
    let k = c.in_ok-kind.kind in
    let signs = c.in_ok-kind.signs in
    let ended : line_ended c.args.text.now ≡ true = sym c.if-not-is_ended.ensures in
    let f = left_cut c.in-Some.ensures.cuts (inr ended) in
    let q = placed-value _ c.read_head.result (k, signs) c.in_ok-kind.ensures.cases (λ e k. k) in
    given text c.in-Some.rest.now k (sign_bytes signs) c.read_rest.result
    (opened text l ls c.if-text-gt-LIMIT.false ended f.lines ∙ all_head l ls k (sign_bytes signs) (named l c.read_head.result k signs q c.read_head.ensures))
    c.read_rest.ensures
