use Rattle.lookup.proofs.Spelling.{Led}
use Rattle.lookup.proofs.value.value.Given as goal

abbrev pub invariant-loop-place : goal.invariant-loop-place
invariant-loop-place g l = Led g.K.Kind.model l.table.grid l.text l.place l.state
