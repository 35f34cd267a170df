-- The laws of lists of calls.
use Rattle.kinds.specs.Kinds.{KindModel}
use Rattle.automata.specs.Drafts.{fresh}
use Rattle.drafts.specs.CallLaws.{CallLaws}
use Rattle.drafts.proofs.CallRuns.{after_all-append}
use Rattle.drafts.proofs.Kept.{after_all-signs, after_all-proper, fresh-proper}
use Rattle.drafts.proofs.Redrawn.{runs_redrawn}

pub call_laws_lem : (K : KindModel) → CallLaws K
call_laws_lem K = record {
  split = after_all-append K;
  signs = after_all-signs K;
  proper = λ signs cs. after_all-proper K (fresh signs) cs (fresh-proper K signs);
  accepted = λ d h. (runs_redrawn K d h).1;
  redraws = λ d h. (runs_redrawn K d h).0;
}
