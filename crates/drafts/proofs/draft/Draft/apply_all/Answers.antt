use Rattle.std.proofs.Common.{◌≡◌, ℕ, ◌+◌, ◌<◌, ◌≤◌, List, [], ◌∷◌, ◌++◌, length, get_or, drop, vec_items, Result, sym, refl, ap, ◌∙◌, ap₂, append_assoc, arith}
use Rattle.std.proofs.lemmas.List.{at_drop_more, at_drop_all, append-nil}
use Rattle.std.proofs.lemmas.Bool.{both_ways}
use Rattle.kinds.specs.Kinds.{KindModel}
use Rattle.drafts.specs.declared.faults.CallFault.{CallFault}
use Rattle.drafts.specs.declared.calls.Call.{Call}
use Rattle.drafts.specs.declared.calls.Call.TheVariants.{Grow}
use Rattle.drafts.specs.declared.calls.Answer.{Answer}
use Rattle.automata.specs.Drafts.{DraftModel}
use Rattle.drafts.specs.Calls.{outcome, after, outcomes, after_all}
use Rattle.drafts.specs.Drawn.{drawn}
use Rattle.drafts.proofs.draft.Draft.apply_all.Goals as goal

-- the answers so far, one call on
module _ (K : KindModel) (d e : DraftModel) (calls : List Call) (i : ℕ) (l : i < length calls) (left : e ≡ after K d (get_or calls i (Grow 0))) where
  answered : (xs ys all : List (Result Answer CallFault)) (x : Result Answer CallFault) → x ≡ outcome K d (get_or calls i (Grow 0)) → ys ≡ xs ++ x ∷ []
      → xs ++ outcomes K d (drop i calls) ≡ all → ys ++ outcomes K e (drop (i + 1) calls) ≡ all
  answered xs ys all x a p inv =
      ap₂ (λ (zs : List (Result Answer CallFault)) (f : DraftModel). zs ++ outcomes K f (drop (i + 1) calls)) p left
      ∙ (append_assoc xs (x ∷ []) (outcomes K (after K d (get_or calls i (Grow 0))) (drop (i + 1) calls))
      ∙ (ap (λ (y : Result Answer CallFault). xs ++ (y ∷ outcomes K (after K d (get_or calls i (Grow 0))) (drop (i + 1) calls))) a
      ∙ (ap (λ (zs : List (Result Answer CallFault)). xs ++ zs) (sym (at_drop_more (outcomes K d) calls i (Grow 0) l)) ∙ inv)))

  moved : (f : DraftModel) → after_all K d (drop i calls) ≡ f → after_all K e (drop (i + 1) calls) ≡ f
  moved f inv = ap (λ (g : DraftModel). after_all K g (drop (i + 1) calls)) left ∙ (sym (at_drop_more (after_all K d) calls i (Grow 0) l) ∙ inv)

ended : (K : KindModel) (d : DraftModel) (calls : List Call) (i : ℕ) → length calls ≤ i → (xs all : List (Result Answer CallFault)) → xs ++ outcomes K d (drop i calls) ≡ all → xs ≡ all
ended K d calls i l xs all inv =
    sym (append-nil xs) ∙ (ap (λ (ys : List (Result Answer CallFault)). xs ++ ys) (sym (at_drop_all (outcomes K d) calls i l)) ∙ inv)

pub loop-call-preserved : goal.loop-call-preserved
loop-call-preserved g c =
    let i = c.loop-call.invariant in
    let p = c.in_ok-push.ensures in
    let a = c.apply-answer.ensures in (
      omega (arith, i.0, p.len),
      omega (arith, i.1, p.capacity),
      answered g.K.Kind.model (drawn c.loop-call.self) (drawn c.apply-answer.new.self) c.args.calls.now c.loop-call.call-index c.loop-call-test.true a.left
          (vec_items c.loop-call.answers) (vec_items c.push.new.self) _ c.apply-answer.result a.answer p.items i.2,
      moved g.K.Kind.model (drawn c.loop-call.self) (drawn c.apply-answer.new.self) c.args.calls.now c.loop-call.call-index c.loop-call-test.true a.left _ i.3,
    )

pub returns : goal.returns
returns g c =
    let i = c.loop-call.invariant in
    record {
      answers = ended g.K.Kind.model (drawn c.loop-call.self) c.args.calls.now c.loop-call.call-index c.loop-call-test.false (vec_items c.loop-call.answers) _ i.2;
      left = sym (at_drop_all (after_all g.K.Kind.model (drawn c.loop-call.self)) c.args.calls.now c.loop-call.call-index c.loop-call-test.false) ∙ i.3;
      kept = λ h. absurd (both_ways _ refl h);
    }
