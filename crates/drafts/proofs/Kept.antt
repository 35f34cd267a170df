-- What calls keep: signs, and what every draft that calls make is.
use Rattle.std.proofs.Common.{◌≡◌, ℕ, ◌<◌, ◌≤◌, Bool, true, false, cond, ◌&&◌, eqb, ◌⊎◌, List, [], ◌∷◌, ◌++◌, length, get_or, set, None, refl, ap, ◌∙◌, inl, inr, arith}
use mathlib.Core.Bool.{false≢true}
use Rattle.std.proofs.lemmas.List.{length_push, get_or_push, get_or_append_left, length-set, get_or-set_same, get_or-set_other}
use Rattle.std.proofs.lemmas.Bool.{ltb-true, eqb-true, and_parts, cases_lt, cases_eq}
use Rattle.kinds.specs.Kinds.{KindModel}
use Rattle.drafts.specs.declared.calls.Call.{Call}
use Rattle.drafts.specs.declared.calls.Call.TheVariants.{Grow, Link, Unlink, Enter, Leave, Rate}
use Rattle.automata.specs.Drafts.{DraftModel, size, letters, fresh, with_values, with_entry, with_arrow, is_state, is_letter}
use Rattle.drafts.specs.Calls.{questions, effect, refusal, after, after_all}
use Rattle.drafts.specs.Canonical.{Proper}
use Rattle.drafts.proofs.Questions.{AllYes, yes_from_none}
use Rattle.drafts.proofs.OneCall.{after_keeps}

-- what each accepted call keeps, every list of calls keeps
pub after_all_keeps : (K : KindModel) (P : DraftModel → Type 0) → ((d : DraftModel) (c : Call) → P d → refusal K d c ≡ None → P (effect d c))
    → (d : DraftModel) (cs : List Call) → P d → P (after_all K d cs)
after_all_keeps K P step d [] h = h
after_all_keeps K P step d (c ∷ cs) h = after_all_keeps K P step (after K d c) cs (after_keeps K d c P h (step d c h))

pub effect-signs : (d : DraftModel) (c : Call) → (effect d c).signs ≡ d.signs
effect-signs d (Grow v) = refl
effect-signs d (Link r) = refl
effect-signs d (Unlink r) = refl
effect-signs d (Enter p) = refl
effect-signs d (Leave p) = refl
effect-signs d (Rate p v) = refl

pub after_all-signs : (K : KindModel) (d : DraftModel) (cs : List Call) → (after_all K d cs).signs ≡ d.signs
after_all-signs K d cs = after_all_keeps K (λ e. e.signs ≡ d.signs) (λ e c h _. effect-signs e c ∙ h) d cs refl

pub fresh-proper : (K : KindModel) (signs : List ℕ) → Proper K (fresh signs)
fresh-proper K signs = record {
  few = omega arith;
  admitted = λ k h. absurd (omega arith);
  entered = λ p h. absurd (false≢true h);
  linked = λ p a q h. absurd (false≢true h);
}

-- a test that is b where t is true, and x elsewhere
cond_cases : (t b x : Bool) → cond t b x ≡ true → ((t ≡ true) × (b ≡ true)) ⊎ (x ≡ true)
cond_cases true b x h = inl (refl, h)
cond_cases false b x h = inr h

-- what the first two questions of a link ask
ends_from_yes : (d : DraftModel) (p a q : ℕ) → (is_state d p && is_state d q) ≡ true → is_letter d a ≡ true → (p < size d) × (a < letters d) × (q < size d)
ends_from_yes d p a q s l =
    let t = and_parts (is_state d p) (is_state d q) s in
    (ltb-true p (size d) t.0, ltb-true a (letters d) l, ltb-true q (size d) t.1)

module _ (K : KindModel) (d : DraftModel) (h : Proper K d) where
  -- each change of a proper draft leaves a proper one where what is added is proper
  values-proper : (vs : List ℕ) → size d ≤ length vs → length vs ≤ 32 → ((k : ℕ) → k < length vs → K.admits (get_or vs k 0) ≡ true)
      → Proper K (with_values d vs)
  values-proper vs more few ok = record {
    few = few;
    admitted = ok;
    entered = λ p e. omega (arith, h.entered p e);
    linked = λ p a q e. let l = h.linked p a q e in (omega arith, l.1, omega arith);
  }

  entry-proper : (p : ℕ) (b : Bool) → (b ≡ true → p < size d) → Proper K (with_entry d p b)
  entry-proper p b state = record {
    few = h.few;
    admitted = h.admitted;
    entered = λ x e. go x (cond_cases (eqb x p) b (d.entry x) e);
    linked = h.linked;
  }
    where
      go : (x : ℕ) → ((eqb x p ≡ true) × (b ≡ true)) ⊎ (d.entry x ≡ true) → x < size d
      go x (inl r) = omega (arith, eqb-true x p r.0, state r.1)
      go x (inr e) = h.entered x e

  arrow-proper : (p a q : ℕ) (b : Bool) → (b ≡ true → (p < size d) × (a < letters d) × (q < size d)) → Proper K (with_arrow d p a q b)
  arrow-proper p a q b ends = record {
    few = h.few;
    admitted = h.admitted;
    entered = h.entered;
    linked = λ x y z e. go x y z (cond_cases (eqb x p && eqb y a && eqb z q) b (d.arrow x y z) e);
  }
    where
      go : (x y z : ℕ) → (((eqb x p && eqb y a && eqb z q) ≡ true) × (b ≡ true)) ⊎ (d.arrow x y z ≡ true) → (x < size d) × (y < letters d) × (z < size d)
      go x y z (inl r) =
          let s = and_parts (eqb x p && eqb y a) (eqb z q) r.0 in
          let t = and_parts (eqb x p) (eqb y a) s.0 in
          let l = ends r.1 in
          (omega (arith, eqb-true x p t.0), omega (arith, eqb-true y a t.1), omega (arith, eqb-true z q s.1))
      go x y z (inr e) = h.linked x y z e

  push-admitted : (v : ℕ) → K.admits v ≡ true → (k : ℕ) → k < length (d.values ++ v ∷ []) → K.admits (get_or (d.values ++ v ∷ []) k 0) ≡ true
  push-admitted v ok k l = go (cases_lt k (size d))
    where
      go : (k < size d) ⊎ (size d ≤ k) → K.admits (get_or (d.values ++ v ∷ []) k 0) ≡ true
      go (inl m) = ap K.admits (get_or_append_left d.values (v ∷ []) 0 k m) ∙ h.admitted k m
      go (inr m) = ap K.admits (get_or_push d.values v 0 k (omega (arith, length_push d.values v))) ∙ ok

  set-admitted : (p v : ℕ) → p < size d → K.admits v ≡ true → (k : ℕ) → k < length (set d.values p v) → K.admits (get_or (set d.values p v) k 0) ≡ true
  set-admitted p v s ok k l = go (cases_eq k p)
    where
      go : (k ≡ p) ⊎ (k ≡ p → ⊥) → K.admits (get_or (set d.values p v) k 0) ≡ true
      go (inl e) = ap (λ (i : ℕ). K.admits (get_or (set d.values p v) i 0)) e ∙ ap K.admits (get_or-set_same d.values p v 0 s) ∙ ok
      go (inr n) = ap K.admits (get_or-set_other d.values p k v 0 n) ∙ h.admitted k (omega (arith, length-set d.values p v))

-- an accepted call makes a proper draft of a proper one
pub effect-proper : (K : KindModel) (d : DraftModel) (c : Call) → Proper K d → AllYes (questions K d c) → Proper K (effect d c)
effect-proper K d (Grow v) h ok =
    let n = length_push d.values v in
    values-proper K d h (d.values ++ v ∷ []) (omega arith) (omega (arith, ltb-true (size d) 32 ok.1.0)) (push-admitted K d h v ok.0)
effect-proper K d (Link r) h ok = arrow-proper K d h r.from r.letter r.to true (λ _. ends_from_yes d r.from r.letter r.to ok.0 ok.1.0)
effect-proper K d (Unlink r) h ok = arrow-proper K d h r.from r.letter r.to false (λ e. absurd (false≢true e))
effect-proper K d (Enter p) h ok = entry-proper K d h p true (λ _. ltb-true p (size d) ok.0)
effect-proper K d (Leave p) h ok = entry-proper K d h p false (λ e. absurd (false≢true e))
effect-proper K d (Rate p v) h ok =
    let n = length-set d.values p v in
    values-proper K d h (set d.values p v) (omega arith) (omega (arith, h.few)) (set-admitted K d h p v (ltb-true p (size d) ok.0) ok.1.0)

pub after_all-proper : (K : KindModel) (d : DraftModel) (cs : List Call) → Proper K d → Proper K (after_all K d cs)
after_all-proper K = after_all_keeps K (Proper K) (λ d c h e. effect-proper K d c h (yes_from_none (questions K d c) e))
