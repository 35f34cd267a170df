use Rattle.std.proofs.Common.{◌≡◌, ◌≤◌, ◌++◌, length, drop, vec_items, vec_len, vec_capacity}
use Rattle.drafts.specs.Calls.{outcomes, after_all}
use Rattle.drafts.specs.Drawn.{drawn}
use Rattle.drafts.proofs.draft.Draft.apply_all.Given as goal

-- what is left of the list gives what is left of the answers
abbrev pub invariant-loop-call : goal.invariant-loop-call
invariant-loop-call g l =
    (vec_len l.answers ≡ l.call-index)
    × (length l.calls ≤ vec_capacity l.answers)
    × (vec_items l.answers ++ outcomes g.K.Kind.model (drawn l.self) (drop l.call-index l.calls) ≡ outcomes g.K.Kind.model (drawn l.initial.self) l.calls)
    × (after_all g.K.Kind.model (drawn l.self) (drop l.call-index l.calls) ≡ after_all g.K.Kind.model (drawn l.initial.self) l.calls)
