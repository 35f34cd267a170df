-- What is written of a draft and of a refusal.
use Rattle.std.specs.Prelude.{ℕ, ◌<◌, cond, List, [], ◌∷◌, ◌++◌, map, decimal, slice_index}
use Rattle.std.specs.Borrow.{MutBor}
use Rattle.fields.specs.declared.writing.Writer.{Writer}
use Rattle.fields.specs.Pieces.{ended}
use Rattle.fields.specs.Writing.{PutsCut}
use Rattle.drafts.specs.declared.calls.Call.{Call}
use Rattle.drafts.specs.declared.calls.Call.TheVariants.{Grow, Enter}
use Rattle.automata.specs.Drafts.{DraftModel, size, letters}
use Rattle.drafts.specs.Canonical.{each_below}
use Rattle.drafts.specs.Calls.{link}
use Rattle.texts.specs.declared.faults.Refusal.{Refusal}
use Rattle.texts.specs.Grammar.{line_of, call_fields}

-- fields as a line with its newline
abbrev pub ended_line : List (List ℕ) → List ℕ
ended_line fs = line_of fs ++ 10 ∷ []

-- the lines of calls, each with its newline
abbrev pub call_lines : List ℕ → List Call → List ℕ
call_lines signs calls = ended 10 (map (λ c. line_of (call_fields signs c)) calls)

-- The parts of the calls that draw a draft afresh: the state p, p as an entry state, the arrow from p with the letter a to q,
-- the arrows from p with the letter a, and the arrows from p.
abbrev pub grow_call : DraftModel → ℕ → List Call
grow_call d p = Grow (slice_index d.values p) ∷ []

abbrev pub enter_call : DraftModel → ℕ → List Call
enter_call d p = cond (d.entry p) (Enter p ∷ []) []

abbrev pub link_call : DraftModel → ℕ → ℕ → ℕ → List Call
link_call d p a q = cond (d.arrow p a q) (link p a q ∷ []) []

abbrev pub links_by : DraftModel → ℕ → ℕ → List Call
links_by d p a = each_below (size d) (link_call d p a)

abbrev pub links_from : DraftModel → ℕ → List Call
links_from d p = each_below (letters d) (links_by d p)

-- The line of a refusal: X, its number, the line, the field and the inner number.
abbrev pub refusal_line : Refusal → List ℕ
refusal_line r = ended_line ((88 ∷ []) ∷ decimal r.number ∷ decimal r.line ∷ decimal r.field ∷ decimal r.inner ∷ [])

-- where a call goes from w to w' at the number i, it puts the text of i
abbrev pub PutsAt : ℕ → (ℕ → MutBor Writer → MutBor Writer → Type 0) → (ℕ → List ℕ) → Type 0
PutsAt count calls text = (i : ℕ) (w w' : MutBor Writer) → i < count → calls i w w' → PutsCut w.now w'.now (text i)
