-- What tells against a state of a draft, as a press leaves it, and what a verdict answers.
use Rattle.std.specs.Prelude.{◌≡◌, ℕ, ◌<◌, ◌≤◌, List, Some, None, Ok, Err, Option, Result, ◌≢◌}
use Rattle.kinds.specs.Kinds.{KindModel}
use Rattle.automata.specs.Signs.{sign_fault}
use Rattle.automata.specs.Drafts.{DraftModel, size}
use Rattle.views.specs.declared.colouring.Colouring.{Colouring}
use Rattle.views.specs.Colourings.{plain}
use Rattle.pressing.specs.declared.faults.VerdictFault.{VerdictFault}
use Rattle.pressing.specs.declared.faults.VerdictFault.TheVariants.{NoState, Press}
use Rattle.pressing.specs.declared.judging.Verdict.{Verdict}
use Rattle.pressing.specs.declared.judging.Verdict.TheVariants.{Atomic, Told}
use Rattle.pressing.specs.Pressed.{press_fault_number, Left, Empty, DraftPressed, DraftEnded}
use Rattle.pressing.specs.Sources.{Made}
use Rattle.pressing.specs.Press as law

abbrev pub verdict_fault_number : VerdictFault → ℕ
verdict_fault_number NoState = 3
verdict_fault_number (Press f) = press_fault_number f

-- In what follows the backward states are the first n of `cols`, and the rows of the chart the first m of `rows`.

-- columns i and j of the chart are equal
abbrev pub SameColumn : KindModel → List Colouring → ℕ → ℕ → ℕ → Type 0
SameColumn K rows m i j = (r : ℕ) → r < m → law.code_of_entry K rows r i ≡ law.code_of_entry K rows r j

-- backward states i and j tell against q: their columns are equal, and their codes at q differ
abbrev pub Tells : KindModel → List Colouring → List Colouring → ℕ → ℕ → ℕ → ℕ → Type 0
Tells K cols rows m q i j = SameColumn K rows m i j × (law.code_of_entry K cols i q ≢ law.code_of_entry K cols j q)

-- i tells against q with none above it and below b
abbrev pub Alone : KindModel → List Colouring → List Colouring → ℕ → ℕ → ℕ → ℕ → Type 0
Alone K cols rows m q i b = (j : ℕ) → i < j → j < b → Tells K cols rows m q i j → ⊥

-- no pair whose lower number is below b tells against q
abbrev pub AloneTo : KindModel → List Colouring → ℕ → List Colouring → ℕ → ℕ → ℕ → Type 0
AloneTo K cols n rows m q b = (i : ℕ) → i < b → Alone K cols rows m q i n

-- the first pair that tells against q, by the lower number and then the higher
pub record FirstPair (K : KindModel) (cols : List Colouring) (n : ℕ) (rows : List Colouring) (m q i j : ℕ) : Type 0 where
  pub order : i < j
  pub within : j < n
  pub tells : Tells K cols rows m q i j
  pub lower : AloneTo K cols n rows m q i
  pub higher : Alone K cols rows m q i j

abbrev pub Judged : KindModel → List Colouring → ℕ → List Colouring → ℕ → ℕ → Verdict → Type 0
Judged K cols n rows m q Atomic = AloneTo K cols n rows m q n
Judged K cols n rows m q (Told i j) = FirstPair K cols n rows m q i j

abbrev pub VerdictEnded : (K : KindModel) (d : DraftModel) → sign_fault d.signs ≡ None → ℕ → Left Colouring → Left Colouring → Result Verdict VerdictFault → Type 0
VerdictEnded K d ok q back last (Ok v) = (q < size d) × DraftPressed K d ok back last × Judged K back.entries back.len last.entries last.len q v
VerdictEnded K d ok q back last (Err NoState) = (size d ≤ q) × Empty d.signs K.none (plain 0) back × Empty d.signs K.none (plain 0) last
VerdictEnded K d ok q back last (Err (Press f)) = (q < size d) × DraftEnded {U = Unit {0}} K d ok back last (Err f)

-- what a verdict says of the state, in a draft that calls make
abbrev pub Means : KindModel → DraftModel → ℕ → Verdict → Type 0
Means K d q Atomic = Made K d → law.Atomic K d q
Means K d q (Told i j) = Made K d → law.Atomic K d q → ⊥

abbrev pub VerdictMeans : {E : Type 0} → KindModel → DraftModel → ℕ → Result Verdict E → Type 0
VerdictMeans K d q (Ok v) = Means K d q v
VerdictMeans K d q (Err e) = Unit {0}

-- the first of the states below k against which a pair tells
abbrev pub FirstTold : KindModel → List Colouring → ℕ → List Colouring → ℕ → ℕ → Option ℕ → Type 0
FirstTold K cols n rows m k None = (q : ℕ) → q < k → AloneTo K cols n rows m q n
FirstTold K cols n rows m k (Some q) =
    (q < k) × ((i : ℕ) × (j : ℕ) × FirstPair K cols n rows m q i j) × ((p : ℕ) → p < q → AloneTo K cols n rows m p n)

-- the first state that is not atomic
abbrev pub FirstNotAtomic : KindModel → DraftModel → Option ℕ → Type 0
FirstNotAtomic K d None = (q : ℕ) → q < size d → law.Atomic K d q
FirstNotAtomic K d (Some q) = (q < size d) × (law.Atomic K d q → ⊥) × ((p : ℕ) → p < q → law.Atomic K d p)
