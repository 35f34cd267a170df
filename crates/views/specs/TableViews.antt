-- A table as a machine that reads words forward, and as one that reads them backward.
use Rattle.std.specs.Prelude.{◌≡◌, ℕ, cond, List, length, None, nat_lt, slice_index_or}
use Rattle.std.proofs.lemmas.Bool.{le-ltb, cond-false}
use Rattle.kinds.specs.Kinds.{KindModel, clean}
use Rattle.kinds.proofs.Joins.{clean_admitted}
use Rattle.automata.specs.Signs.{sign_fault}
use Rattle.machines.specs.Models.{MachineModel}
use Rattle.machines.specs.Tables.{TableModel, count, table_step}
use Rattle.machines.proofs.Reading.{table-idle}
use Rattle.views.specs.declared.colouring.Colouring.{Colouring}
use Rattle.views.specs.Colourings.{coloured}

-- the value of the state i; what is no state has none
abbrev pub value_of_state : KindModel → TableModel → ℕ → ℕ
value_of_state K t i = slice_index_or t.values i K.none

-- Forward: the states are those of the table, and each value is joined with none.
abbrev pub table_view : (K : KindModel) (signs : List ℕ) → sign_fault signs ≡ None → TableModel → MachineModel ℕ
table_view K signs ok t = record {
  kind = K;
  signs = signs;
  start = 0;
  step = table_step (length signs) t;
  value = λ i. clean K (value_of_state K t i);
  acceptable = ok;
  idle = table-idle (length signs) t;
  admitted = λ i. clean_admitted K (value_of_state K t i);
}

-- the code of the state to which the letter a leads from p
abbrev pub next_code : KindModel → ℕ → TableModel → Colouring → ℕ → ℕ → ℕ
next_code K n t s a p = slice_index_or s.codes (table_step n t p a) K.none

-- each state takes the code of its next state
abbrev pub codes_onward : KindModel → ℕ → TableModel → Colouring → ℕ → Colouring
codes_onward K n t s a = cond (nat_lt a n) (coloured K (count t) (next_code K n t s a)) s

-- Backward: a code for each state, at first its value.
abbrev pub backward_table_model : (K : KindModel) (signs : List ℕ) → sign_fault signs ≡ None → TableModel → MachineModel Colouring
backward_table_model K signs ok t = record {
  kind = K;
  signs = signs;
  start = coloured K (count t) (value_of_state K t);
  step = codes_onward K (length signs) t;
  value = λ s. clean K (slice_index_or s.codes 0 K.none);
  acceptable = ok;
  idle = λ s a l. cond-false (nat_lt a (length signs)) _ s (le-ltb a (length signs) l);
  admitted = λ s. clean_admitted K (slice_index_or s.codes 0 K.none);
}
