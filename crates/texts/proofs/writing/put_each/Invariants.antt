use Rattle.std.proofs.Common.{ℕ, List}
use Rattle.fields.specs.Writing.{PutsCut}
use Rattle.drafts.specs.Canonical.{each_below}
use Rattle.texts.specs.Writing.{PutsAt}
use Rattle.texts.proofs.writing.put_each.Given as goal

-- the texts of the numbers passed are put
abbrev pub invariant-loop-i : goal.invariant-loop-i
invariant-loop-i g l = (text : ℕ → List ℕ) → PutsAt l.count (λ i w w'. goal.F-post g l.put i w tt w') text → PutsCut l.initial.out l.out (each_below l.i text)
