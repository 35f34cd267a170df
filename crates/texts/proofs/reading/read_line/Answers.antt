use Rattle.std.proofs.Common.{◌≡◌, ℕ, List, Ok, Result, sym, ap, ◌∙◌}
use Rattle.std.proofs.lemmas.Result.{err_from_is_err_and}
use Rattle.automata.specs.declared.automaton.Automaton.{Automaton}
use Rattle.drafts.specs.declared.calls.Call.{Call}
use Rattle.automata.specs.Shown.{shown}
use Rattle.drafts.specs.Drawn.{drawn}
use Rattle.drafts.specs.Calls.{refusal, answer}
use Rattle.drafts.proofs.OneCall.{accepted-after}
use Rattle.texts.specs.declared.faults.LineFault.{LineFault}
use Rattle.texts.specs.Reading.{call_of_line}
use Rattle.texts.proofs.Lines.{line_refused, line_accepted}
use Rattle.texts.proofs.Outcomes.{refused_by_lem, not-refused}
use Rattle.texts.proofs.reading.read_line.Goals as goal

-- the call that was read, over the signs that the draft holds
called : (a b : Automaton) (signs l : List ℕ) (r : Result Call LineFault) → signs ≡ (shown a).signs → a ≡ b → r ≡ call_of_line signs l → call_of_line (shown b).signs l ≡ r
called a b signs l r e f h = ap (λ (s : List ℕ). call_of_line s l) (ap (λ (x : Automaton). (shown x).signs) (sym f) ∙ sym e) ∙ sym h

pub returns-in_err-apply : goal.returns-in_err-apply
returns-in_err-apply g c =
    let p = err_from_is_err_and c.from_residual-in_err-apply.result c.from_residual-in_err-apply.ensures.1 in
    let K = g.K.Kind.model in
    let d = drawn c.args.draft.now in
    let l = c.args.line.now in
    let call = c.in_ok-call.call in
    let b = called _ _ _ l (Ok call) c.signs.ensures c.automaton.ensures c.in_ok-call.ensures in
    rw (p.1, p.2) (line_refused K d l call c.in_err-apply.field-0.0 b
    (refused_by_lem (refusal K d call) (answer d call) c.in_err-apply.field-0.0 (sym c.in_err-apply.ensures.answer)))

pub returns : goal.returns
returns g c =
    let K = g.K.Kind.model in
    let d = drawn c.args.draft.now in
    let l = c.args.line.now in
    let call = c.in_ok-call.call in
    let a = c.in_ok-apply.ensures in
    let b = called _ _ _ l (Ok call) c.signs.ensures c.automaton.ensures c.in_ok-call.ensures in
    let n = not-refused (refusal K d call) (answer d call) c.in_ok-apply.field-0 (sym a.answer) in
    line_accepted K d l call b n ∙ ap Ok (sym (accepted-after K d call n) ∙ sym a.left)
