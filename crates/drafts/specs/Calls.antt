-- The six calls on a draft: which is refused and why, what it answers, what it leaves, and lists of calls.
use Rattle.std.specs.Prelude.{ℕ, Bool, true, false, not, ◌&&◌, List, [], ◌∷◌, ◌++◌, Some, None, Ok, Err, Option, Result, nat_lt, slice_set}
use Rattle.kinds.specs.Kinds.{KindModel}
use Rattle.drafts.specs.declared.faults.CallFault.{CallFault}
use Rattle.drafts.specs.declared.faults.CallFault.TheVariants.{NoState, NoLetter, NotAdmitted, Full, Present, Absent}
use Rattle.drafts.specs.declared.calls.Call.{Call}
use Rattle.drafts.specs.declared.calls.Call.TheVariants.{Grow, Link, Unlink, Enter, Leave, Rate}
use Rattle.drafts.specs.declared.calls.Answer.{Answer}
use Rattle.drafts.specs.declared.calls.Answer.TheVariants.{State, Done}
use Rattle.automata.specs.Tests.{first_no}
use Rattle.automata.specs.Drafts.{DraftModel, size, is_state, is_letter, with_values, with_entry, with_arrow}

-- the call that adds the arrow from p by a to q
abbrev pub link : ℕ → ℕ → ℕ → Call
link p a q = Link (record { from = p; letter = a; to = q })

abbrev pub call_fault_number : CallFault → ℕ
call_fault_number NoState = 3
call_fault_number NoLetter = 4
call_fault_number NotAdmitted = 5
call_fault_number Full = 6
call_fault_number Present = 7
call_fault_number Absent = 8

-- The questions of each call, in their order, with the fault of a no.
abbrev pub questions : KindModel → DraftModel → Call → List (Bool × CallFault)
questions K d (Grow v) = (K.admits v, NotAdmitted) ∷ (nat_lt (size d) 32, Full) ∷ []
questions K d (Link r) = (is_state d r.from && is_state d r.to, NoState) ∷ (is_letter d r.letter, NoLetter) ∷ (not (d.arrow r.from r.letter r.to), Present) ∷ []
questions K d (Unlink r) = (is_state d r.from && is_state d r.to, NoState) ∷ (is_letter d r.letter, NoLetter) ∷ (d.arrow r.from r.letter r.to, Absent) ∷ []
questions K d (Enter p) = (is_state d p, NoState) ∷ (not (d.entry p), Present) ∷ []
questions K d (Leave p) = (is_state d p, NoState) ∷ (d.entry p, Absent) ∷ []
questions K d (Rate p v) = (is_state d p, NoState) ∷ (K.admits v, NotAdmitted) ∷ []

-- What an accepted call leaves.
abbrev pub effect : DraftModel → Call → DraftModel
effect d (Grow v) = with_values d (d.values ++ v ∷ [])
effect d (Link r) = with_arrow d r.from r.letter r.to true
effect d (Unlink r) = with_arrow d r.from r.letter r.to false
effect d (Enter p) = with_entry d p true
effect d (Leave p) = with_entry d p false
effect d (Rate p v) = with_values d (slice_set d.values p v)

-- What an accepted call answers: a new state's number, or nothing.
abbrev pub answer : DraftModel → Call → Answer
answer d (Grow v) = State (size d)
answer d (Link r) = Done
answer d (Unlink r) = Done
answer d (Enter p) = Done
answer d (Leave p) = Done
answer d (Rate p v) = Done

-- The first question whose answer is no.
abbrev pub refusal : KindModel → DraftModel → Call → Option CallFault
refusal K d c = first_no (questions K d c)

-- the answer, where there is no fault
abbrev pub unless : {T E : Type 0} → Option E → T → Result T E
unless None x = Ok x
unless (Some e) x = Err e

-- the changed thing, where there is no fault
abbrev pub changed : {X E : Type 0} → Option E → X → X → X
changed None x y = y
changed (Some e) x y = x

abbrev pub outcome : KindModel → DraftModel → Call → Result Answer CallFault
outcome K d c = unless (refusal K d c) (answer d c)

-- A refused call leaves the draft as it is.
abbrev pub after : KindModel → DraftModel → Call → DraftModel
after K d c = changed (refusal K d c) d (effect d c)

-- Each call of a list goes on from what the one before left, refused or not.
abbrev pub after_all : KindModel → DraftModel → List Call → DraftModel
after_all K d [] = d
after_all K d (c ∷ cs) = after_all K (after K d c) cs

abbrev pub outcomes : KindModel → DraftModel → List Call → List (Result Answer CallFault)
outcomes K d [] = []
outcomes K d (c ∷ cs) = outcome K d c ∷ outcomes K (after K d c) cs
