-- Lines are read on a draft just where they spell calls that are all accepted.
use Rattle.std.proofs.Common.{◌≡◌, ℕ, suc, List, [], ◌∷◌, map, Some, None, Ok, Err, Option, Result, sym, refl, ap, ◌∙◌, subst}
use Rattle.kinds.specs.Kinds.{KindModel}
use Rattle.drafts.specs.declared.faults.CallFault.{CallFault}
use Rattle.drafts.specs.declared.calls.Call.{Call}
use Rattle.drafts.specs.declared.calls.Answer.{Answer}
use Rattle.automata.specs.Signs.{sign_fault}
use Rattle.automata.specs.Drafts.{DraftModel}
use Rattle.drafts.specs.Calls.{effect, answer, refusal, unless, outcomes, after, after_all}
use Rattle.drafts.specs.CallLaws.{AllOk}
use Rattle.drafts.proofs.OneCall.{accepted-after, accepted-outcome}
use Rattle.drafts.proofs.Kept.{effect-signs}
use Rattle.texts.specs.declared.faults.LineFault.{LineFault}
use Rattle.texts.specs.declared.faults.LineFault.TheVariants as line
use Rattle.texts.specs.Grammar.{line_of, call_fields, AllHaveLines}
use Rattle.texts.specs.Reading.{call_of_line, then, refused_by, draft_after_line, at_line, draft_after_lines}
use Rattle.texts.proofs.Lines.{line_accepted}
use Rattle.texts.proofs.Texts.{lines_step}
use Rattle.texts.proofs.Spelled.{fault_not_ok, call_reads, SpellsCall, call_spelled}

-- the lines of calls
abbrev pub call_lines : List ℕ → List Call → List (List ℕ)
call_lines signs cs = map (λ c. line_of (call_fields signs c)) cs

-- the first outcome is Ok where there was no fault
first-accepted : {T E : Type 0} (o : Option E) (x : T) (rs : List (Result T E)) → AllOk (unless o x ∷ rs) → (o ≡ None) × AllOk rs
first-accepted None x rs h = (refl, h)
first-accepted (Some e) x rs h = absurd h

refused_ok : (o : Option CallFault) (e x : DraftModel) → refused_by line.Call o e ≡ Ok x → (o ≡ None) × (e ≡ x)
refused_ok None e x h = (refl, cc)
refused_ok (Some f) e x h = absurd (fault_not_ok _ x h)

module _ (K : KindModel) where
  -- a line that is read is that of an accepted call
  pub line_read : (d : DraftModel) (l : List ℕ) (e : DraftModel) → draft_after_line K d l ≡ Ok e
      → (c : Call) × SpellsCall d.signs l c × (refusal K d c ≡ None) × (effect d c ≡ e)
  line_read d l e h = go (call_of_line d.signs l) refl h
    where
      go : (r : Result Call LineFault) → call_of_line d.signs l ≡ r → then r (λ c. refused_by line.Call (refusal K d c) (effect d c)) ≡ Ok e
          → (c : Call) × SpellsCall d.signs l c × (refusal K d c ≡ None) × (effect d c ≡ e)
      go (Ok c) q h = let p = refused_ok (refusal K d c) (effect d c) e h in (c, call_spelled d.signs l c q, p.0, p.1)
      go (Err x) q h = absurd (fault_not_ok _ e h)

  after-signs : (d : DraftModel) (c : Call) → refusal K d c ≡ None → (after K d c).signs ≡ d.signs
  after-signs d c h = ap (λ (x : DraftModel). x.signs) (accepted-after K d c h) ∙ effect-signs d c

  module _ (signs : List ℕ) where
    -- what is spelled is read
    pub lines-read : sign_fault signs ≡ None → (n : ℕ) (d : DraftModel) (cs : List Call) → d.signs ≡ signs → AllHaveLines signs cs
        → AllOk (outcomes K d cs) → draft_after_lines K n d (call_lines signs cs) ≡ Ok (after_all K d cs)
    lines-read ok n d [] e h a = refl
    lines-read ok n d (c ∷ cs) e h a =
        let l = line_of (call_fields signs c) in
        let p = first-accepted (refusal K d c) (answer d c) (outcomes K (after K d c) cs) a in
        let reads : call_of_line d.signs l ≡ Ok c = ap (λ (s : List ℕ). call_of_line s l) e ∙ call_reads signs ok c h.0 in
        let step : draft_after_line K d l ≡ Ok (after K d c) = line_accepted K d l c reads p.0 ∙ ap Ok (sym (accepted-after K d c p.0)) in
        lines_step K n d l (call_lines signs cs) (after K d c) step
        ∙ lines-read ok (suc n) (after K d c) cs (after-signs d c p.0 ∙ e) h.1 p.1

    -- the lines spell calls that draw e on d
    pub record Draws (d : DraftModel) (ls : List (List ℕ)) (e : DraftModel) : Type 0 where
      pub calls : List Call
      pub spelling : ls ≡ call_lines signs calls
      pub lines : AllHaveLines signs calls
      pub done : AllOk (outcomes K d calls)
      pub drawn : e ≡ after_all K d calls

    draws-more : (d : DraftModel) (c : Call) (l : List ℕ) (ls : List (List ℕ)) (e : DraftModel) → SpellsCall signs l c → refusal K d c ≡ None
        → Draws (after K d c) ls e → Draws d (l ∷ ls) e
    draws-more d c l ls e s h r = record {
      calls = c ∷ r.calls;
      spelling = ap (λ (m : List ℕ). m ∷ ls) s.1 ∙ ap (λ (ms : List (List ℕ)). line_of (call_fields signs c) ∷ ms) r.spelling;
      lines = (s.0, r.lines);
      done = subst (λ (o : Result Answer CallFault). AllOk (o ∷ outcomes K (after K d c) r.calls)) (sym (accepted-outcome K d c h)) r.done;
      drawn = r.drawn;
    }

    -- what is read is spelled
    pub lines-drawn : (n : ℕ) (d : DraftModel) (ls : List (List ℕ)) (e : DraftModel) → d.signs ≡ signs → draft_after_lines K n d ls ≡ Ok e → Draws d ls e
    lines-drawn n d [] e s h = record { calls = []; spelling = refl; lines = tt; done = tt; drawn = cc }
    lines-drawn n d (l ∷ ls) e s h = go (λ x. lines-drawn (suc n) x ls e) (draft_after_line K d l) refl h
      where
        go : ((x : DraftModel) → x.signs ≡ signs → draft_after_lines K (suc n) x ls ≡ Ok e → Draws x ls e)
            → (r : Result DraftModel LineFault) → draft_after_line K d l ≡ r
            → then (at_line n r) (λ d'. draft_after_lines K (suc n) d' ls) ≡ Ok e → Draws d (l ∷ ls) e
        go rec (Ok x) q h =
            let p = line_read d l x q in
            let same : x ≡ after K d p.0 = sym p.3 ∙ sym (accepted-after K d p.0 p.2) in
            draws-more d p.0 l ls e (subst (λ (ss : List ℕ). SpellsCall ss l p.0) s p.1) p.2
            (rec (after K d p.0) (after-signs d p.0 p.2 ∙ s) (sym (ap (λ (y : DraftModel). draft_after_lines K (suc n) y ls) same) ∙ h))
        go rec (Err x) q h = absurd (fault_not_ok _ e h)
