use Rattle.std.proofs.Common.{◌≡◌, ◌+◌, ◌*◌, get_or}
use Rattle.tables.specs.Laying.{padded}
use Rattle.tables.proofs.grid.laying.lay_row.Given as goal

abbrev pub invariant-loop-a : goal.invariant-loop-a
invariant-loop-a l = l.row ≡ padded 16 0 l.a (λ a. get_or l.next (l.i * l.letters + a) 0)
