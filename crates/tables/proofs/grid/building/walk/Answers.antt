use Rattle.std.proofs.Common.{refl, ap, arith}
use Rattle.std.proofs.lemmas.Result.{err_from_is_err_and}
use Rattle.rolls.proofs.RollLaws.{keeps_on}
use Rattle.tables.specs.Held.{values_of, cells_of}
use Rattle.tables.proofs.Fillings.{first_filling, first-full}
use Rattle.tables.proofs.grid.building.walk.Goals as goal

pub returns-in_err-place : goal.returns-in_err-place
returns-in_err-place g c =
    let p = err_from_is_err_and c.from_residual.result c.from_residual.ensures.1 in
    let q = c.in_err-place.ensures in
    record {
      kept = q.kept;
      ended = rw p.1 (first-full _ _ _ _ _ _ _ c.start.ensures c.requires.unlisted c.requires.blank_roll q.placed);
    }

pub loop-i-init : goal.loop-i-init
loop-i-init g c =
    let q = c.in_ok-place.ensures in (
      record { loan = refl; long = refl },
      omega arith,
      first_filling _ _ _ _ _ _ _ c.start.ensures c.requires.unlisted c.requires.blank_roll c.in_ok-place.field-0 q.placed _ (ap values_of c.requires.blank_rows) _ (ap cells_of c.requires.blank_rows),
    )

pub fill_row-requires : goal.fill_row-requires
fill_row-requires g c = record { letters = c.requires.letters; listed = omega (arith, c.loop-i-test.true, c.len.ensures); filling = c.loop-i.invariant.2 }

pub returns-in_err-fill_row : goal.returns-in_err-fill_row
returns-in_err-fill_row g c =
    let p = err_from_is_err_and c.from_residual-in_err-fill_row.result c.from_residual-in_err-fill_row.ensures.1 in
    let q = c.in_err-fill_row.ensures in
    let r = c.in_ok-place.ensures in
    let i = c.loop-i.invariant in
    record {
      kept = keeps_on r.kept (keeps_on i.0 q.kept);
      ended = rw p.1 q.ended;
    }

pub loop-i-smaller : goal.loop-i-smaller
loop-i-smaller g c = omega (arith, c.loop-i.invariant.2.few, c.loop-i-test.true, c.len.ensures)

pub loop-i-preserved : goal.loop-i-preserved
loop-i-preserved g c =
    let q = c.in_ok-fill_row.ensures in
    let i = c.loop-i.invariant in
    (keeps_on i.0 q.kept, omega (arith, q.listed), q.ended)

pub returns : goal.returns
returns g c =
    let r = c.in_ok-place.ensures in
    let i = c.loop-i.invariant in
    record {
      kept = keeps_on r.kept i.0;
      ended = (omega (arith, i.1, c.loop-i-test.false, c.len.ensures), i.2);
    }
