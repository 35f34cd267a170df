-- Lists of calls that are all accepted, and what they leave.
use Rattle.std.proofs.Common.{◌≡◌, ℕ, zero, suc, ◌<◌, List, [], ◌∷◌, ◌++◌, None, Ok, Err, Result, sym, refl, ap, ◌∙◌, subst, arith}
use Rattle.kinds.specs.Kinds.{KindModel}
use Rattle.drafts.specs.declared.faults.CallFault.{CallFault}
use Rattle.drafts.specs.declared.calls.Call.{Call}
use Rattle.drafts.specs.declared.calls.Answer.{Answer}
use Rattle.automata.specs.Drafts.{DraftModel}
use Rattle.drafts.specs.Calls.{effect, refusal, outcome, outcomes, after, after_all}
use Rattle.drafts.specs.Canonical.{each_below}
use Rattle.drafts.specs.CallLaws.{AllOk}
use Rattle.drafts.proofs.OneCall.{accepted-after, accepted-outcome}

pub all_ok-append : {T E : Type 0} (rs ss : List (Result T E)) → AllOk rs → AllOk ss → AllOk (rs ++ ss)
all_ok-append [] ss h k = k
all_ok-append (Ok x ∷ rs) ss h k = all_ok-append rs ss h k
all_ok-append (Err e ∷ rs) ss h k = absurd h

module _ (K : KindModel) where
  pub after_all-append : (d : DraftModel) (cs ds : List Call) → after_all K d (cs ++ ds) ≡ after_all K (after_all K d cs) ds
  after_all-append d [] ds = refl
  after_all-append d (c ∷ cs) ds = after_all-append (after K d c) cs ds

  pub outcomes-append : (d : DraftModel) (cs ds : List Call) → outcomes K d (cs ++ ds) ≡ outcomes K d cs ++ outcomes K (after_all K d cs) ds
  outcomes-append d [] ds = refl
  outcomes-append d (c ∷ cs) ds = ap (λ (rs : List (Result Answer CallFault)). outcome K d c ∷ rs) (outcomes-append (after K d c) cs ds)

  -- from d the calls are all accepted and leave e
  abbrev pub Runs : DraftModel → List Call → DraftModel → Type 0
  Runs d cs e = (after_all K d cs ≡ e) × AllOk (outcomes K d cs)

  pub runs_none : (d : DraftModel) → Runs d [] d
  runs_none d = (refl, tt)

  pub runs_one : (d : DraftModel) (c : Call) → refusal K d c ≡ None → Runs d (c ∷ []) (effect d c)
  runs_one d c h = (accepted-after K d c h, subst (λ (r : Result Answer CallFault). AllOk (r ∷ [])) (sym (accepted-outcome K d c h)) tt)

  pub runs_append : (d e f : DraftModel) (cs ds : List Call) → Runs d cs e → Runs e ds f → Runs d (cs ++ ds) f
  runs_append d e f cs ds h k = (
    after_all-append d cs ds ∙ ap (λ (x : DraftModel). after_all K x ds) h.0 ∙ k.0,
    subst AllOk (sym (outcomes-append d cs ds))
        (all_ok-append (outcomes K d cs) (outcomes K (after_all K d cs) ds) h.1
        (subst (λ (x : DraftModel). AllOk (outcomes K x ds)) (sym h.0) k.1)),
  )

  pub runs_to : (d e f : DraftModel) (cs : List Call) → Runs d cs e → e ≡ f → Runs d cs f
  runs_to d e f cs h k = (h.0 ∙ k, h.1)

  pub runs_from : (d e f : DraftModel) (cs : List Call) → d ≡ e → Runs e cs f → Runs d cs f
  runs_from d e f cs k h = subst (λ (x : DraftModel). Runs x cs f) (sym k) h

  -- drafts one after another, each drawn from the one before by its own calls
  pub runs_below : (n : ℕ) (draft : ℕ → DraftModel) (calls : ℕ → List Call)
      → ((k : ℕ) → k < n → Runs (draft k) (calls k) (draft (suc k))) → Runs (draft 0) (each_below n calls) (draft n)
  runs_below zero draft calls each = runs_none (draft 0)
  runs_below (suc n) draft calls each =
      runs_append (draft 0) (draft n) (draft (suc n)) (each_below n calls) (calls n)
      (runs_below n draft calls (λ k l. each k (omega arith))) (each n (omega arith))
