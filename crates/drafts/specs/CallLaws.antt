-- What lists of calls keep, and that a draft is drawn again by its canonical calls.
use Rattle.std.specs.Prelude.{◌≡◌, ℕ, List, [], ◌∷◌, ◌++◌, Ok, Err, Result}
use Rattle.kinds.specs.Kinds.{KindModel}
use Rattle.drafts.specs.declared.calls.Call.{Call}
use Rattle.automata.specs.Drafts.{DraftModel, fresh}
use Rattle.drafts.specs.Calls.{after_all, outcomes}
use Rattle.drafts.specs.Canonical.{Proper, redrawn}

-- each outcome is Ok
abbrev pub AllOk : {T E : Type 0} → List (Result T E) → Type 0
AllOk [] = Unit {0}
AllOk (Ok x ∷ rs) = AllOk rs
AllOk (Err e ∷ rs) = ⊥

pub record CallLaws (K : KindModel) : Type 0 where
  -- lists of calls, one after another
  pub split : (d : DraftModel) (cs ds : List Call) → after_all K d (cs ++ ds) ≡ after_all K (after_all K d cs) ds
  -- signs never change
  pub signs : (d : DraftModel) (cs : List Call) → (after_all K d cs).signs ≡ d.signs
  -- what every list of calls from a fresh draft keeps
  pub proper : (signs : List ℕ) (cs : List Call) → Proper K (after_all K (fresh signs) cs)
  -- the canonical calls of such a draft are all accepted and draw it again
  pub accepted : (d : DraftModel) → Proper K d → AllOk (outcomes K (fresh d.signs) (redrawn d))
  pub redraws : (d : DraftModel) → Proper K d → after_all K (fresh d.signs) (redrawn d) ≡ d
