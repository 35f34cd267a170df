use Rattle.std.proofs.Common.{sym}
use Rattle.automata.specs.Shown.{sign_bytes}
use Rattle.tables.proofs.Filled.{wiped_of}
use Rattle.pressing.specs.Pressed.{left_of}
use Rattle.pressing.proofs.Ends.{last_fails}
use Rattle.pressing.proofs.press.build_twice.Goals as goal

pub returns-in_default-build-clause-ended : goal.returns-in_default-build-clause-ended
returns-in_default-build-clause-ended g c =
    let m = g.M.Machine.meaning c.args.machine.now in
    let d = g.M.State.State.blank in
    let K = g.M.Kind.Kind.model in
    let s = c.signs-signs in
    let w = c.wipe-in_default-build.ensures in
    let l = last_fails m K s.ensures.kind d (left_of c.build.new.table c.build.new.roll) c.in-Ok.ensures.ended _ (left_of c.build-2.new.table c.build-2.new.roll) (sym w.kept.long) c.in_default-build.ensures.ended in
    (l.0, wiped_of m K (sign_bytes s.result) d _ _ _ s.ensures.signs s.ensures.kind w.wiped, l.1)
