use Rattle.lookup.specs.Lookups.{BestTo}
use Rattle.lookup.proofs.Spelling.{Led}
use Rattle.lookup.proofs.longest.best_end.Given as goal

abbrev pub invariant-loop-place : goal.invariant-loop-place
invariant-loop-place g l = Led g.K.Kind.model l.grid l.text l.place l.state × BestTo g.K.Kind.model l.grid l.text l.place l.best
