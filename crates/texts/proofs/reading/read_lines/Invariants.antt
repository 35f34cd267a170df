use Rattle.std.proofs.Common.{◌≡◌, ◌+◌, ◌≤◌, true, ◌⊎◌, [], length}
use Rattle.drafts.specs.Drawn.{drawn}
use Rattle.texts.specs.Reading.{draft_after_lines, lines_in, line_ended}
use Rattle.texts.proofs.reading.read_lines.Given as goal

-- the lines that are left give what all lines give
abbrev pub invariant-loop-line : goal.invariant-loop-line
invariant-loop-line g l =
    ((l.rest ≡ []) ⊎ (line_ended l.rest ≡ true))
    × (l.number + length l.rest ≤ length l.text + 1)
    × (draft_after_lines g.K.Kind.model (l.number + 1) (drawn l.draft) (lines_in l.rest) ≡ draft_after_lines g.K.Kind.model 2 (drawn l.initial.draft) (lines_in l.text))

abbrev pub decreases-loop-line : goal.decreases-loop-line
decreases-loop-line g l = length l.rest
