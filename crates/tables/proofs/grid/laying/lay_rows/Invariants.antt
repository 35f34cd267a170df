use Rattle.std.proofs.Common.{◌≡◌, get_or, replicate}
use Rattle.tables.specs.Held.{values_of, cells_of}
use Rattle.tables.specs.Laying.{padded, row_at}
use Rattle.tables.proofs.grid.laying.lay_rows.Given as goal

abbrev pub invariant-loop-i : goal.invariant-loop-i
invariant-loop-i l = (values_of l.rows ≡ padded 128 0 l.i (λ k. get_or l.values k 0)) × (cells_of l.rows ≡ padded 128 (replicate 16 0) l.i (row_at l.letters l.next))
