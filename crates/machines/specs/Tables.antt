-- Transition tables, and the machine that a table is.
use Rattle.std.specs.Prelude.{◌≡◌, ℕ, ◌+◌, ◌*◌, true, cond, ◌&&◌, List, length, None, nat_lt, slice_index, slice_index_or}
use Rattle.std.proofs.lemmas.Bool.{le-ltb, and_right, cond-false}
use Rattle.kinds.specs.Kinds.{KindModel}
use Rattle.automata.specs.Signs.{sign_fault}
use Rattle.machines.specs.Models.{MachineModel}

-- A value for each state, and the rows one after another, a cell for each letter.
pub record TableModel : Type 0 where
  pub values : List ℕ
  pub cells : List ℕ
  deriving IsSet as TableModel-set

-- the number of states
abbrev pub count : TableModel → ℕ
count t = length t.values

-- the state in row i under the letter a, where a row has n cells
abbrev pub next : ℕ → TableModel → ℕ → ℕ → ℕ
next n t i a = slice_index t.cells (i * n + a)

-- each value is admitted
abbrev pub Admitted : KindModel → TableModel → Type 0
Admitted K t = (i : ℕ) → K.admits (slice_index_or t.values i K.none) ≡ true

-- from what is no state, and by what is no letter, no step is made
abbrev pub table_step : ℕ → TableModel → ℕ → ℕ → ℕ
table_step n t i a = cond (nat_lt i (count t) && nat_lt a n) (next n t i a) i

-- A table as a machine: it starts in state 0, and what is no state has the value none.
abbrev pub table_machine_model : (K : KindModel) (signs : List ℕ) → sign_fault signs ≡ None → (t : TableModel) → Admitted K t → MachineModel ℕ
table_machine_model K signs ok t h = record {
  kind = K;
  signs = signs;
  start = 0;
  step = table_step (length signs) t;
  value = λ i. slice_index_or t.values i K.none;
  acceptable = ok;
  idle = λ i a l. cond-false _ (next (length signs) t i a) i (and_right (nat_lt i (count t)) (nat_lt a (length signs)) (le-ltb a (length signs) l));
  admitted = h;
}
