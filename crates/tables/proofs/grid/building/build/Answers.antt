use Rattle.std.proofs.Common.{ℕ, length, replicate, sym, refl, ap, ◌∙◌, subst, arith}
use Rattle.rolls.proofs.RollLaws.{keeps_on}
use Rattle.tables.specs.declared.grid.Grid.{Grid}
use Rattle.tables.specs.Builds.{Accepted}
use Rattle.tables.proofs.Filled.{filled-some, filled-inside, filled-below, letters_are, accepted, refused}
use Rattle.tables.proofs.GridLaws.{values-long}
use Rattle.tables.proofs.grid.building.build.Goals as goal

pub walk-requires : goal.walk-requires
walk-requires g c =
    let d = g.M.State.State.blank in
    record {
      letters = c.len.ensures ∙ ap length c.signs-signs.ensures.signs;
      blank_rows = c.no_rows-rows.ensures;
      blank_roll = c.clear.ensures.items ∙ ap (λ (n : ℕ). replicate n g.M.State.State.blank) (sym c.clear.ensures.kept.long);
      unlisted = c.clear.ensures.len;
    }

pub invariant_of-grid : goal.invariant_of-grid
invariant_of-grid g c =
    let m = g.M.Machine.meaning c.args.machine.now in
    let q = c.in-Ok.ensures.ended in
    let k = letters_are (g.M.Machine.meaning c.args.machine.now) c.signs-signs.result c.signs-signs.ensures.signs in
    record {
      some = filled-some m _ _ _ _ _ _ q.1 q.0;
      few = omega (arith, q.0, q.1.few);
      tall = omega (arith, values-long c.walk.new.rows, q.1.wide);
      bytes = q.1.bytes;
      columns = q.1.columns;
      blank = q.1.unvalued;
      inside = λ i a li la. filled-inside m _ _ _ _ _ _ q.1 q.0 i a li (omega (arith, k));
      below = filled-below m _ _ _ _ _ _ q.1 q.0;
      beside = λ i a l. q.1.beside i a (omega (arith, k));
    }

pub returns-in-Ok : goal.returns-in-Ok
returns-in-Ok g c =
    let m = g.M.Machine.meaning c.args.machine.now in
    let q = c.in-Ok.ensures in
    record {
      kept = keeps_on c.clear.ensures.kept q.kept;
      ended = subst (λ (t : Grid). Accepted (g.M.Machine.meaning c.args.machine.now) g.M.State.State.blank t c.walk.new.roll.entries.now c.walk.new.roll.len) (sym c.of.ensures)
          (accepted m _ _ _ c.in-Ok.count _ c.signs-signs.result refl c.signs-signs.ensures.signs refl q.ended.0 q.ended.1);
    }

pub returns-in-Err : goal.returns-in-Err
returns-in-Err g c =
    let m = g.M.Machine.meaning c.args.machine.now in
    let q = c.in-Err.ensures in
    record {
      kept = keeps_on c.clear.ensures.kept (keeps_on q.kept c.wipe.ensures.kept);
      ended = refused m g.M.Kind.Kind.model _ c.walk.new.roll.entries.now _ _ _ c.signs-signs.result c.signs-signs.ensures.signs c.signs-signs.ensures.kind
          q.ended c.wipe.ensures.kept.long c.wipe.ensures.wiped;
    }
