use Rattle.std.proofs.Common.{sym}
use Rattle.automata.specs.Shown.{sign_bytes}
use Rattle.tables.proofs.Filled.{wiped_of}
use Rattle.pressing.specs.Pressed.{left_of}
use Rattle.pressing.proofs.Ends.{machine_fails, pressed}
use Rattle.pressing.proofs.Left.{machine-says}
use Rattle.pressing.proofs.press.press_machine.Goals as goal

pub returns-in-Err-clause-ended : goal.returns-in-Err-clause-ended
returns-in-Err-clause-ended g c =
    let t = c.build_twice.new in
    let m = g.M.Machine.meaning c.args.machine.now in
    let d = g.M.State.State.blank in
    let K = g.M.Kind.Kind.model in
    let s = c.signs-signs in
    let w = c.wipe-in-Err.ensures in
    let e = c.in-Err.ensures.ended in
    machine_fails m K s.ensures.kind d (left_of c.build.new.table c.build.new.roll) c.in-Ok.ensures.ended (left_of t.table t.roll) (left_of t.last t.chart) c.in-Err.fault
    (left_of c.wipe-in-Err.new.table c.wipe-in-Err.new.roll) (sym w.kept.long) e.0 (wiped_of m K (sign_bytes s.result) d _ _ _ s.ensures.signs s.ensures.kind w.wiped) e.1 e.2

pub returns-clause-says : goal.returns-clause-says
returns-clause-says g c =
    let t = c.build_twice.new in
    let m = g.M.Machine.meaning c.args.machine.now in
    let p = pressed m g.M.Kind.Kind.model c.signs-signs.ensures.kind g.M.State.State.blank (left_of c.build.new.table c.build.new.roll) c.in-Ok.ensures.ended
    (left_of t.table t.roll) (left_of t.last t.chart) c.in_default-build_twice.ensures.ended in
    λ w o. machine-says p w
