use Rattle.std.proofs.Common.{◌≡◌}
use Rattle.pressing.specs.declared.judging.Verdict.TheVariants.{Atomic}
use Rattle.pressing.specs.Verdicts.{Alone, AloneTo}
use Rattle.pressing.proofs.judging.judge.Given as goal

-- no pair passed tells against the state
abbrev pub invariant-pairs : goal.invariant-pairs
invariant-pairs g l =
    let back = l.columns in
    let last = l.chart in
    AloneTo g.K.Kind.model back.entries.now back.len last.entries.now last.len l.state l.low × (l.verdict ≡ Atomic)

abbrev pub invariant-loop-high : goal.invariant-loop-high
invariant-loop-high g l =
    let back = l.columns in
    let last = l.chart in
    Alone g.K.Kind.model back.entries.now last.entries.now last.len l.state l.low l.high × (l.verdict ≡ Atomic)
