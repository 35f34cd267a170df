use Rattle.std.proofs.Common.{◌≡◌, ◌<◌, get_or, Ok, refl, ap, ◌∙◌, arith}
use Rattle.std.proofs.lemmas.Result.{err_from_is_err_and}
use Rattle.machines.specs.Models.{alphabet}
use Rattle.rolls.proofs.RollLaws.{keeps_on, placed-more}
use Rattle.tables.specs.declared.grid.building.BuildFault.{BuildFault}
use Rattle.tables.proofs.Fillings.{in_use, value-written, cell-written, filling_value, filling_row, placed_filling, placed_past, placed-full}
use Rattle.tables.proofs.grid.building.fill_row.Goals as goal

pub loop-letter-init : goal.loop-letter-init
loop-letter-init g c =
    let m = g.M.Machine.meaning c.args.machine.now in
    let d = g.M.State.State.blank in
    let roll = c.args.roll.now in
    let x : c.value.result ≡ (g.M.Machine.meaning c.args.machine.now).value (get_or c.args.roll.now.entries.now c.args.i g.M.State.State.blank) =
    c.value.ensures ∙ ap m.value (in_use d _ c.as_slice.result.now roll.entries.now roll.len c.args.i c.index-as_slice-i.is c.as_slice.ensures roll.within c.requires.listed) in (
      record { loan = refl; long = refl },
      c.requires.listed,
      value-written m d _ _ _ _ _ 0 c.value.result (filling_value _ _ _ _ _ _ _ _ _ c.requires.filling c.value.result c.requires.listed c.value.type_inv x),
    )

pub returns-in_err-number : goal.returns-in_err-number
returns-in_err-number g c =
    let p = err_from_is_err_and c.from_residual.result c.from_residual.ensures.1 in
    let i = c.loop-letter.invariant in
    let q = c.in_err-number.ensures in
    let la : c.loop-letter.letter < alphabet (g.M.Machine.meaning c.args.machine.now) = omega (arith, c.requires.letters, c.loop-letter-test.true) in
    record {
      kept = keeps_on i.0 q.kept;
      ended = rw p.1 (placed-full _ _ _ _ _ _ _ _ _ i.2 i.1 la _ (c.step-state.ensures ∙ ap (λ (s : g.row.M-State.Denot). (g.M.Machine.meaning c.args.machine.now).step s c.loop-letter.letter) (in_use g.M.State.State.blank _ _ _ c.loop-letter.roll.len _ c.index-as_slice-i-in-loop-letter.is c.as_slice-in-loop-letter.ensures c.loop-letter.roll.within i.1)) _ _ q.placed);
      listed = omega (arith, i.1, q.placed.long);
    }

pub returns-then-number-ge128 : goal.returns-then-number-ge128
returns-then-number-ge128 g c =
    let i = c.loop-letter.invariant in
    let q = c.in_ok-number.ensures in
    let la : c.loop-letter.letter < alphabet (g.M.Machine.meaning c.args.machine.now) = omega (arith, c.requires.letters, c.loop-letter-test.true) in
    record {
      kept = keeps_on i.0 q.kept;
      ended = placed_past _ _ _ _ _ _ _ _ _ i.2 i.1 la _ (c.step-state.ensures ∙ ap (λ (s : g.row.M-State.Denot). (g.M.Machine.meaning c.args.machine.now).step s c.loop-letter.letter) (in_use g.M.State.State.blank _ _ _ c.loop-letter.roll.len _ c.index-as_slice-i-in-loop-letter.is c.as_slice-in-loop-letter.ensures c.loop-letter.roll.within i.1)) _ _ c.in_ok-number.number q.placed c.if-number-ge128.true;
      listed = omega (arith, i.1, (placed-more {E = BuildFault} _ _ _ _ _ _ (Ok c.in_ok-number.number) q.placed).0);
    }

pub loop-letter-preserved : goal.loop-letter-preserved
loop-letter-preserved g c =
    let i = c.loop-letter.invariant in
    let q = c.in_ok-number.ensures in
    let la : c.loop-letter.letter < alphabet (g.M.Machine.meaning c.args.machine.now) = omega (arith, c.requires.letters, c.loop-letter-test.true) in (
      keeps_on i.0 q.kept,
      omega (arith, i.1, (placed-more {E = BuildFault} _ _ _ _ _ _ (Ok c.in_ok-number.number) q.placed).0),
      cell-written _ _ _ _ _ _ _ _ c.loop-letter.letter c.in_ok-number.number
          (placed_filling _ _ _ _ _ _ _ _ _ i.2 i.1 la _ (c.step-state.ensures ∙ ap (λ (s : g.row.M-State.Denot). (g.M.Machine.meaning c.args.machine.now).step s c.loop-letter.letter) (in_use g.M.State.State.blank _ _ _ c.loop-letter.roll.len _ c.index-as_slice-i-in-loop-letter.is c.as_slice-in-loop-letter.ensures c.loop-letter.roll.within i.1)) _ _ c.in_ok-number.number q.placed c.if-number-ge128.false),
    )

pub returns : goal.returns
returns g c =
    let i = c.loop-letter.invariant in
    let e : c.loop-letter.letter ≡ alphabet (g.M.Machine.meaning c.args.machine.now) = omega (arith, c.requires.letters, c.loop-letter-test.false, c.loop-letter.auto.letter-end) in
    record {
      kept = i.0;
      ended = filling_row _ _ _ _ _ _ _ _ _ i.2 e;
      listed = i.1;
    }
