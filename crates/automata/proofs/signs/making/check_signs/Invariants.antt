use Rattle.std.proofs.Common.{◌≤◌, length}
use Rattle.automata.specs.Signs.{Visible, Apart}
use Rattle.automata.proofs.signs.making.check_signs.Given as goal

abbrev pub invariant-loop-i : goal.invariant-loop-i
invariant-loop-i l = (1 ≤ length l.signs) × (length l.signs ≤ 16) × Visible l.signs l.i × Apart l.signs l.i
