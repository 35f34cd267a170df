-- Tables that are laid out cell by cell: the questions that are asked, and what is made.
use Rattle.std.specs.Prelude.{◌≡◌, ℕ, ◌+◌, ◌*◌, Bool, cond, ◌&&◌, List, [], ◌∷◌, length, Some, None, Ok, Err, Option, Result, ◌==◌, nat_le, nat_lt, slice_index}
use Rattle.kinds.specs.Kinds.{KindModel}
use Rattle.automata.specs.declared.faults.SignFault.{SignFault}
use Rattle.automata.specs.Signs.{sign_fault_number, sign_fault}
use Rattle.automata.specs.Shown.{sign_bytes}
use Rattle.automata.specs.Tests.{every, first_no}
use Rattle.drafts.specs.Words.{tabulate}
use Rattle.tables.specs.declared.grid.laying.LayFault.{LayFault}
use Rattle.tables.specs.declared.grid.laying.LayFault.TheVariants.{Signs, Shape, NoState, NotAdmitted}
use Rattle.tables.specs.declared.table.Table.{Table}
use Rattle.tables.specs.Shown.{shown}

abbrev pub lay_fault_number : LayFault → ℕ
lay_fault_number (Signs f) = sign_fault_number f
lay_fault_number Shape = 14
lay_fault_number NoState = 15
lay_fault_number NotAdmitted = 5

-- a count from 1 to 128, with that many values, and a next state for each state and each of n letters
abbrev pub shaped : ℕ → ℕ → ℕ → ℕ → Bool
shaped n count values cells = nat_le 1 count && (nat_le count 128 && (values == count && cells == count * n))

-- each next state is below the count
abbrev pub all_below : ℕ → List ℕ → Bool
all_below count next = every (length next) (λ k. nat_lt (slice_index next k) count)

-- each value is admitted
abbrev pub admits_all : KindModel → List ℕ → Bool
admits_all K values = every (length values) (λ k. K.admits (slice_index values k))

-- The questions after those on the signs, in their order, with the fault of a no.
abbrev pub lay_questions : KindModel → ℕ → ℕ → List ℕ → List ℕ → List (Bool × LayFault)
lay_questions K n count values next =
    (shaped n count (length values) (length next), Shape) ∷ (all_below count next, NoState) ∷ (admits_all K values, NotAdmitted) ∷ []

-- the fault of the signs, or else the other
abbrev pub or_else : Option SignFault → Option LayFault → Option LayFault
or_else None other = other
or_else (Some f) other = Some (Signs f)

abbrev pub lay_fault : KindModel → List ℕ → ℕ → List ℕ → List ℕ → Option LayFault
lay_fault K signs count values next = or_else (sign_fault signs) (first_no (lay_questions K (length signs) count values next))

-- The table holds exactly what was given, or the first question whose answer is no is named.
abbrev pub Laid : {T : Type 0} → KindModel → List ℕ → ℕ → List ℕ → List ℕ → Result (Table T) LayFault → Type 0
Laid K signs count values next (Ok t) =
    (lay_fault K signs count values next ≡ None) × (sign_bytes t.grid.signs ≡ signs) × (shown t.grid ≡ record { values = values; cells = next })
Laid K signs count values next (Err e) = lay_fault K signs count values next ≡ Some e

-- the first n values of f, and d in the other of m places
abbrev pub padded : {A : Type 0} → ℕ → A → ℕ → (ℕ → A) → List A
padded m d n f = tabulate m (λ k. cond (nat_lt k n) (f k) d)

-- row i of cells that stand row after row, n to a row, in 16 places
abbrev pub row_at : ℕ → List ℕ → ℕ → List ℕ
row_at n next i = padded 16 0 n (λ a. slice_index next (i * n + a))
