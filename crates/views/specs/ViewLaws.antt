-- What the views of a draft and of a table say of words.
use Rattle.std.specs.Prelude.{◌≡◌, ℕ, ◌<◌, ◌≤◌, true, List, ◌∷◌, reverse, length, None, slice_index_or}
use Rattle.kinds.specs.Kinds.{KindModel, clean}
use Rattle.automata.specs.Sets.{has}
use Rattle.automata.specs.Signs.{sign_fault}
use Rattle.automata.specs.Drafts.{DraftModel, size, letters}
use Rattle.automata.specs.Shown.{sign_bytes}
use Rattle.drafts.specs.declared.draft.Draft.{Draft}
use Rattle.drafts.specs.Drawn.{drawn}
use Rattle.drafts.specs.Words.{Over, run, member, reach, value, value_from}
use Rattle.machines.specs.Models.{ends, meaning}
use Rattle.machines.specs.Tables.{TableModel, table_step, Admitted, table_machine_model}
use Rattle.tables.specs.declared.table.Table.{Table}
use Rattle.tables.specs.Shown.{shown}
use Rattle.views.specs.Accepted.{accepted}
use Rattle.views.specs.DraftViews.{code_of_state, forward_draft_model, backward_draft_model}
use Rattle.views.specs.TableViews.{value_of_state, table_view, backward_table_model}

-- Of every word over the signs of a draft:
pub record DraftViewLaws (K : KindModel) (d : DraftModel) (ok : sign_fault d.signs ≡ None) : Type 0 where
  -- forward, the set after a word is the set of the states that it reaches
  pub reached : (w : List ℕ) → Over (letters d) w → (q : ℕ) → has (ends (forward_draft_model K d ok) w).set q ≡ member (reach d w) q
  -- so the word gets the draft's value
  pub forward : (w : List ℕ) → Over (letters d) w → meaning (forward_draft_model K d ok) w ≡ value K d w
  -- backward, the code of a state after a word counts as the value from there of the word turned round
  pub counts : (w : List ℕ) → Over (letters d) w → (p : ℕ) → p < size d
      → clean K (slice_index_or (ends (backward_draft_model K d ok) w).codes p K.none) ≡ value_from K d p (reverse w)
  -- it is that value after one letter or more
  pub codes : (a : ℕ) (w : List ℕ) → Over (letters d) (a ∷ w) → (p : ℕ) → p < size d
      → slice_index_or (ends (backward_draft_model K d ok) (a ∷ w)).codes p K.none ≡ value_from K d p (reverse (a ∷ w))
  -- and after every word where the values of the states are admitted
  pub admitted_codes : ((p : ℕ) → p < size d → K.admits (code_of_state K d p) ≡ true) → (w : List ℕ) → Over (letters d) w → (p : ℕ) → p < size d
      → slice_index_or (ends (backward_draft_model K d ok) w).codes p K.none ≡ value_from K d p (reverse w)
  -- past the last state it is none
  pub past : (w : List ℕ) → Over (letters d) w → (p : ℕ) → size d ≤ p → slice_index_or (ends (backward_draft_model K d ok) w).codes p K.none ≡ K.none
  -- so the word gets the draft's value of the word turned round
  pub backward : (w : List ℕ) → Over (letters d) w → meaning (backward_draft_model K d ok) w ≡ value K d (reverse w)

-- Of every word, over the signs of a table or not:
pub record TableViewLaws (K : KindModel) (signs : List ℕ) (ok : sign_fault signs ≡ None) (t : TableModel) : Type 0 where
  -- backward, the code of p after a word is the value from there of the word turned round, and none past the last state
  pub codes : (w : List ℕ) (p : ℕ) → slice_index_or (ends (backward_table_model K signs ok t) w).codes p K.none ≡ value_of_state K t (run (table_step (length signs) t) p (reverse w))
  -- so the word gets the table's value of the word turned round
  pub backward : (w : List ℕ) → meaning (backward_table_model K signs ok t) w ≡ meaning (table_view K signs ok t) (reverse w)
  -- the table as a machine is the machine that a table with admitted values is
  pub forward : (h : Admitted K t) (w : List ℕ) → meaning (table_view K signs ok t) w ≡ meaning (table_machine_model K signs ok t h) w

-- Of every draft and every table of a kind T, whose codes are those of K:
pub record ViewLaws (T : Type 0) (K : KindModel) : Type 0 where
  pub draft : (d : Draft T) → DraftViewLaws K (drawn d) (accepted d.automaton.signs)
  pub table : (t : Table T) → TableViewLaws K (sign_bytes t.grid.signs) (accepted t.grid.signs) (shown t.grid)
