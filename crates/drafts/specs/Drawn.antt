-- What a draft holds, what opening one gives, and what a call makes of it.
use Rattle.std.specs.Prelude.{◌≡◌, ℕ, true, List, Some, None, Ok, Err, Result, is_err}
use Rattle.kinds.specs.Kinds.{KindModel}
use Rattle.automata.specs.declared.faults.SignFault.{SignFault}
use Rattle.drafts.specs.declared.draft.Draft.{Draft}
use Rattle.drafts.specs.declared.calls.Call.{Call}
use Rattle.drafts.specs.declared.faults.CallFault.{CallFault}
use Rattle.automata.specs.Signs.{sign_fault}
use Rattle.automata.specs.Drafts.{DraftModel, fresh}
use Rattle.automata.specs.Shown.{shown}
use Rattle.drafts.specs.Calls.{refusal, after, unless}

abbrev pub drawn : {K : Type 0} → Draft K → DraftModel
drawn d = shown d.automaton

abbrev pub Opened : {K : Type 0} → List ℕ → Result (Draft K) SignFault → Type 0
Opened signs (Ok d) = (sign_fault signs ≡ None) × (drawn d ≡ fresh signs)
Opened signs (Err e) = sign_fault signs ≡ Some e

-- The call c on the draft old: what it answers, x where it is not refused, and what it leaves, the very same draft where it is.
pub record Made {K : Type 0} {T : Type 0} (M : KindModel) (c : Call) (x : T) (old new : Draft K) (result : Result T CallFault) : Type 0 where
  pub answer : result ≡ unless (refusal M (drawn old) c) x
  pub left : drawn new ≡ after M (drawn old) c
  pub kept : is_err result ≡ true → new ≡ old
