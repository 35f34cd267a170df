use Rattle.std.proofs.Common.{ℕ, ◌+◌, Err, Result, sym, ap, ◌∙◌, subst, arith, rules}
use Rattle.std.proofs.lemmas.Result.{err_from_is_err_and}
use Rattle.fields.proofs.Separated.{cut_length}
use Rattle.drafts.specs.Drawn.{drawn}
use Rattle.texts.specs.declared.faults.LineFault.{LineFault}
use Rattle.texts.specs.declared.faults.TextFault.TheVariants.{Line}
use Rattle.texts.specs.Reading.{lines_in}
use Rattle.texts.specs.Gives.{LineRead}
use Rattle.texts.proofs.Outcomes.{placed-fault, placed-value}
use Rattle.texts.proofs.Turns.{left_cut, turn_fault, turn_done}
use Rattle.texts.proofs.reading.read_lines.Goals as goal

pub returns-in_err-map_err : goal.returns-in_err-map_err
returns-in_err-map_err g c =
    let p = err_from_is_err_and c.from_residual.result c.from_residual.ensures.1 in
    let K = g.K.Kind.model in
    let d = drawn c.loop-line.draft in
    let l = c.in-Some.line.now in
    let n = c.loop-line.number + 1 in
    let x = c.in_err-map_err.field-0.0 in
    let q = placed-fault (c.loop-line.number + 1) c.read_line.result c.in_err-map_err.field-0.0 c.in_err-map_err.ensures.cases (λ e k. search rules) in
    let r = subst (λ (r : Result (Unit {0}) LineFault). LineRead g.K.Kind.model (drawn c.loop-line.draft) c.in-Some.line.now (drawn c.read_line.new.draft) r) q.1 c.read_line.ensures in
    let f = left_cut c.in-Some.ensures.cuts c.loop-line.invariant.0 in
    rw (p.1, p.2) (turn_fault K n d c.loop-line.rest.now l (lines_in c.in-Some.more.now) x.1 _ f.lines r c.loop-line.invariant.2
    ∙ ap (λ (m : ℕ). Err (Line m c.in_err-map_err.field-0.0.1)) (sym q.0))

pub loop-line-smaller : goal.loop-line-smaller
loop-line-smaller g c = omega (arith, cut_length c.in-Some.ensures.cuts)

pub loop-line-preserved : goal.loop-line-preserved
loop-line-preserved g c =
    let K = g.K.Kind.model in
    let d = drawn c.loop-line.draft in
    let l = c.in-Some.line.now in
    let n = c.loop-line.number + 1 in
    let q = placed-value _ c.read_line.result c.in_ok-map_err.field-0 c.in_ok-map_err.ensures.cases (λ e k. k) in
    let r = subst (λ (r : Result (Unit {0}) LineFault). LineRead g.K.Kind.model (drawn c.loop-line.draft) c.in-Some.line.now (drawn c.read_line.new.draft) r) q c.read_line.ensures in
    let f = left_cut c.in-Some.ensures.cuts c.loop-line.invariant.0 in (
      f.rest,
      omega (arith, c.loop-line.invariant.1, cut_length c.in-Some.ensures.cuts),
      turn_done K n d c.loop-line.rest.now l (lines_in c.in-Some.more.now) (drawn c.read_line.new.draft) _ f.lines r c.loop-line.invariant.2,
    )
