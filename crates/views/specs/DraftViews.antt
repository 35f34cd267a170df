-- A draft as a machine that reads words forward, and as one that reads them backward.
use Rattle.std.specs.Prelude.{◌≡◌, ℕ, Bool, cond, ◌&&◌, get_or, None, slice_index_or}
use Rattle.std.proofs.lemmas.Bool.{le-ltb, cond-false}
use Rattle.kinds.specs.Kinds.{KindModel, join_all}
use Rattle.kinds.proofs.Joins.{join_all_admitted}
use Rattle.automata.specs.declared.sets.StateSet.{StateSet}
use Rattle.automata.specs.Sets.{has}
use Rattle.automata.specs.Signs.{sign_fault}
use Rattle.automata.specs.Tests.{some}
use Rattle.automata.specs.Drafts.{DraftModel, size, letters, is_letter}
use Rattle.drafts.specs.Words.{tabulate}
use Rattle.machines.specs.Models.{MachineModel}
use Rattle.views.specs.declared.colouring.Colouring.{Colouring}
use Rattle.views.specs.declared.states.Reached.{Reached}
use Rattle.views.specs.Colourings.{coloured}
use Rattle.views.specs.Those.{those, reached_set}

-- the join of the codes f of the numbers below n that pass the test s
abbrev pub join_over : KindModel → ℕ → (ℕ → Bool) → (ℕ → ℕ) → ℕ
join_over K n s f = join_all K (tabulate n (λ p. cond (s p) (f p) K.none))

-- the value of the state p; what is no state has none
abbrev pub code_of_state : KindModel → DraftModel → ℕ → ℕ
code_of_state K d p = slice_index_or d.values p K.none

-- an arrow of the letter a leads to q from a state of the draft that is in s
abbrev pub leads_into : DraftModel → StateSet → ℕ → ℕ → Bool
leads_into d s a q = some (size d) (λ p. has s p && d.arrow p a q)

-- Forward: the states are sets of states of the draft.
abbrev pub set_onward : DraftModel → Reached → ℕ → Reached
set_onward d s a = cond (is_letter d a) (reached_set (those (size d) (leads_into d s.set a))) s

abbrev pub forward_draft_model : (K : KindModel) (d : DraftModel) → sign_fault d.signs ≡ None → MachineModel Reached
forward_draft_model K d ok = record {
  kind = K;
  signs = d.signs;
  start = reached_set (those (size d) d.entry);
  step = set_onward d;
  value = λ s. join_over K (size d) (has s.set) (code_of_state K d);
  acceptable = ok;
  idle = λ s a l. cond-false (is_letter d a) _ s (le-ltb a (letters d) l);
  admitted = λ s. join_all_admitted K (tabulate (size d) (λ p. cond (has s.set p) (code_of_state K d p) K.none));
}

-- each state takes the join of the codes of the ends of its arrows of the letter a
abbrev pub ends_joined : KindModel → DraftModel → Colouring → ℕ → ℕ → ℕ
ends_joined K d s a p = join_over K (size d) (d.arrow p a) (λ q. get_or s.codes q K.none)

abbrev pub codes_back : KindModel → DraftModel → Colouring → ℕ → Colouring
codes_back K d s a = cond (is_letter d a) (coloured K (size d) (ends_joined K d s a)) s

-- Backward: a code for each state, at first its value.
abbrev pub backward_draft_model : (K : KindModel) (d : DraftModel) → sign_fault d.signs ≡ None → MachineModel Colouring
backward_draft_model K d ok = record {
  kind = K;
  signs = d.signs;
  start = coloured K (size d) (code_of_state K d);
  step = codes_back K d;
  value = λ s. join_over K (size d) d.entry (λ p. get_or s.codes p K.none);
  acceptable = ok;
  idle = λ s a l. cond-false (is_letter d a) _ s (le-ltb a (letters d) l);
  admitted = λ s. join_all_admitted K (tabulate (size d) (λ p. cond (d.entry p) (slice_index_or s.codes p K.none) K.none));
}
