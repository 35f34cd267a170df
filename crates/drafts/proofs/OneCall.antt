-- One call: an accepted one leaves its effect and answers, a refused one leaves the draft and its fault.
use Rattle.std.proofs.Common.{◌≡◌, Some, None, Ok, Option, refl, ap}
use Rattle.kinds.specs.Kinds.{KindModel}
use Rattle.drafts.specs.declared.faults.CallFault.{CallFault}
use Rattle.drafts.specs.declared.calls.Call.{Call}
use Rattle.automata.specs.Drafts.{DraftModel}
use Rattle.drafts.specs.Calls.{effect, answer, refusal, unless, changed, outcome, after}

module _ (K : KindModel) (d : DraftModel) (c : Call) where
  pub accepted-after : refusal K d c ≡ None → after K d c ≡ effect d c
  accepted-after h = ap (λ (o : Option CallFault). changed o d (effect d c)) h

  pub accepted-outcome : refusal K d c ≡ None → outcome K d c ≡ Ok (answer d c)
  accepted-outcome h = ap (λ (o : Option CallFault). unless o (answer d c)) h

  -- what holds of the draft, and of the effect where the call is accepted, holds of what the call leaves
  pub after_keeps : (P : DraftModel → Type 0) → P d → (refusal K d c ≡ None → P (effect d c)) → P (after K d c)
  after_keeps P same new = go (refusal K d c) refl
    where
      go : (o : Option CallFault) → refusal K d c ≡ o → P (changed o d (effect d c))
      go None h = new h
      go (Some e) h = same
