-- The canonical calls of a draft are accepted one by one and draw it again.
use Rattle.std.proofs.Common.{◌≡◌, ℕ, suc, ◌+◌, ◌<◌, ◌≤◌, Bool, true, false, cond, not, ◌&&◌, ◌||◌, eqb, ltb, List, [], ◌∷◌, ◌++◌, map, length, get_or, sym, refl, ap, ◌∙◌, arith}
use Rattle.std.proofs.lemmas.List.{append-nil, append_assoc, length_push}
use Rattle.std.proofs.lemmas.Bool.{true≢false, lt-ltb, le-ltb, eqb-true, and_parts, and_from, and_right}
use Rattle.kinds.specs.Kinds.{KindModel}
use Rattle.drafts.specs.declared.calls.Call.{Call}
use Rattle.drafts.specs.declared.calls.Call.TheVariants.{Grow, Enter}
use Rattle.automata.specs.Drafts.{DraftModel, size, letters, fresh, with_values, with_entry, with_arrow}
use Rattle.drafts.specs.Calls.{link, questions}
use Rattle.drafts.specs.Canonical.{Proper, each_below, grow_calls, enter_calls, link_calls, redrawn}
use Rattle.drafts.proofs.Questions.{none_from_yes}
use Rattle.automata.proofs.SameDraft.{same-draft}
use Rattle.drafts.proofs.CallRuns.{Runs, runs_none, runs_one, runs_append, runs_to, runs_from, runs_below}
use Rattle.drafts.proofs.Before.{ltb_next, before, before_self, before-first, before-next, before-letter, before_state, before_last}

-- states with values, no entry state and no arrow
abbrev states : List ℕ → List ℕ → DraftModel
states signs us = with_values (fresh signs) us

-- each value of vs is one state more
runs_grow : (K : KindModel) (signs us vs : List ℕ) → length us + length vs ≤ 32 → ((k : ℕ) → k < length vs → K.admits (get_or vs k 0) ≡ true)
    → Runs K (states signs us) (map Grow vs) (states signs (us ++ vs))
runs_grow K signs us [] few ok = runs_to K _ _ _ [] (runs_none K (states signs us)) (ap (states signs) (sym (append-nil us)))
runs_grow K signs us (v ∷ vs) few ok =
    runs_to K _ _ _ (map Grow (v ∷ vs))
    (runs_append K (states signs us) (states signs (us ++ v ∷ [])) (states signs (us ++ v ∷ [] ++ vs)) (Grow v ∷ []) (map Grow vs)
    (runs_one K (states signs us) (Grow v)
    (none_from_yes (questions K (states signs us) (Grow v)) (ok 0 (omega arith), (lt-ltb (length us) 32 (omega arith), tt))))
    (runs_grow K signs (us ++ v ∷ []) vs (omega (arith, length_push us v)) (λ k l. ok (suc k) (omega arith))))
    (ap (states signs) (append_assoc us (v ∷ []) vs))

-- Of a test f what t admits is drawn, f && t, and then what u admits, which is one place more: the place where e is true.
-- Where f is true there, a call sets it; where f is false there, nothing is to be done.
draw_true : (f t u e : Bool) → u ≡ (e || t) → (e ≡ true → f ≡ true) → cond e true (f && t) ≡ (f && u)
draw_true true t u true n h = sym n
draw_true false t u true n h = sym (h refl)
draw_true f t u false n h = ap (λ (x : Bool). f && x) (sym n)

draw_false : (f t u e : Bool) → u ≡ (e || t) → (e ≡ true → f ≡ false) → (f && t) ≡ (f && u)
draw_false true t u true n h = absurd (true≢false (h refl))
draw_false false t u true n h = refl
draw_false f t u false n h = ap (λ (x : Bool). f && x) (sym n)

and_same : (f t u : Bool) → (f ≡ true → t ≡ u) → (f && t) ≡ (f && u)
and_same true t u h = h refl
and_same false t u h = refl

and_all : (f t : Bool) → (f ≡ true → t ≡ true) → (f && t) ≡ f
and_all true t h = h refl
and_all false t h = refl

-- the part of d that has the entry states and the arrows of which the tests are true
abbrev part : DraftModel → (ℕ → Bool) → (ℕ → ℕ → ℕ → Bool) → DraftModel
part d n r = record {
  signs = d.signs;
  values = d.values;
  entry = λ p. d.entry p && n p;
  arrow = λ p a q. d.arrow p a q && r p a q;
}

same-arrow : (d : DraftModel) (p a q x y z : ℕ) → (eqb x p && eqb y a && eqb z q) ≡ true → d.arrow x y z ≡ d.arrow p a q
same-arrow d p a q x y z h =
    let s = and_parts (eqb x p && eqb y a) (eqb z q) h in
    let t = and_parts (eqb x p) (eqb y a) s.0 in
    λ i. d.arrow (eqb-true x p t.0 i) (eqb-true y a t.1 i) (eqb-true z q s.1 i)

module _ (K : KindModel) (d : DraftModel) where
  -- one more entry state of d, or none where d has none there
  runs-enter : (n m : ℕ → Bool) (r : ℕ → ℕ → ℕ → Bool) (p : ℕ) → p < size d → n p ≡ false → ((x : ℕ) → m x ≡ (eqb x p || n x))
      → Runs K (part d n r) (cond (d.entry p) (Enter p ∷ []) []) (part d m r)
  runs-enter n m r p l off next = go (d.entry p) refl
    where
      go : (b : Bool) → d.entry p ≡ b → Runs K (part d n r) (cond b (Enter p ∷ []) []) (part d m r)
      go true e =
          runs_to K (part d n r) (with_entry (part d n r) p true) (part d m r) (Enter p ∷ [])
          (runs_one K (part d n r) (Enter p)
          (none_from_yes (questions K (part d n r) (Enter p)) (lt-ltb p (size d) l, (ap not (and_right (d.entry p) (n p) off), tt))))
          (same-draft _ _ refl refl
          (λ x. draw_true (d.entry x) (n x) (m x) (eqb x p) (next x) (λ s. ap d.entry (eqb-true x p s) ∙ e))
          (λ x y z. refl))
      go false e =
          runs_to K (part d n r) (part d n r) (part d m r) [] (runs_none K (part d n r))
          (same-draft _ _ refl refl
          (λ x. draw_false (d.entry x) (n x) (m x) (eqb x p) (next x) (λ s. ap d.entry (eqb-true x p s) ∙ e))
          (λ x y z. refl))

  -- one more arrow of d, or none where d has none there
  runs-link : (n : ℕ → Bool) (r s : ℕ → ℕ → ℕ → Bool) (p a q : ℕ) → p < size d → a < letters d → q < size d → r p a q ≡ false
      → ((x y z : ℕ) → s x y z ≡ (eqb x p && eqb y a && eqb z q || r x y z))
      → Runs K (part d n r) (cond (d.arrow p a q) (link p a q ∷ []) []) (part d n s)
  runs-link n r s p a q lp la lq off next = go (d.arrow p a q) refl
    where
      go : (b : Bool) → d.arrow p a q ≡ b → Runs K (part d n r) (cond b (link p a q ∷ []) []) (part d n s)
      go true e =
          runs_to K (part d n r) (with_arrow (part d n r) p a q true) (part d n s) (link p a q ∷ [])
          (runs_one K (part d n r) (link p a q)
          (none_from_yes (questions K (part d n r) (link p a q)) (
            and_from (ltb p (size d)) (ltb q (size d)) (lt-ltb p (size d) lp) (lt-ltb q (size d) lq),
            (lt-ltb a (letters d) la, (ap not (and_right (d.arrow p a q) (r p a q) off), tt)),
          )))
          (same-draft _ _ refl refl (λ x. refl)
          (λ x y z. draw_true (d.arrow x y z) (r x y z) (s x y z) (eqb x p && eqb y a && eqb z q) (next x y z) (λ t. same-arrow d p a q x y z t ∙ e)))
      go false e =
          runs_to K (part d n r) (part d n r) (part d n s) [] (runs_none K (part d n r))
          (same-draft _ _ refl refl (λ x. refl)
          (λ x y z. draw_false (d.arrow x y z) (r x y z) (s x y z) (eqb x p && eqb y a && eqb z q) (next x y z) (λ t. same-arrow d p a q x y z t ∙ e)))

  -- the entry states below a number, and no arrow
  abbrev entering : ℕ → DraftModel
  entering k = part d (λ x. ltb x k) (before 0 0 0)

  -- all entry states, and the arrows before one
  abbrev linking : ℕ → ℕ → ℕ → DraftModel
  linking p a q = part d (λ x. ltb x (size d)) (before p a q)

  runs-entries : Runs K (entering 0) (enter_calls d) (entering (size d))
  runs-entries =
      runs_below K (size d) entering (λ p. cond (d.entry p) (Enter p ∷ []) [])
      (λ p l. runs-enter (λ x. ltb x p) (λ x. ltb x (suc p)) (before 0 0 0) p l (le-ltb p p (omega arith)) (λ x. ltb_next x p))

  -- the calls of one arrow, of a state and a letter, and of a state
  abbrev arrow_calls : ℕ → ℕ → ℕ → List Call
  arrow_calls p a q = cond (d.arrow p a q) (link p a q ∷ []) []

  abbrev letter_calls : ℕ → ℕ → List Call
  letter_calls p a = each_below (size d) (arrow_calls p a)

  abbrev state_calls : ℕ → List Call
  state_calls p = each_below (letters d) (letter_calls p)

  runs-letter : (p a : ℕ) → Proper K d → p < size d → a < letters d → Runs K (linking p a 0) (letter_calls p a) (linking p (suc a) 0)
  runs-letter p a h lp la =
      runs_to K (linking p a 0) (linking p a (size d)) (linking p (suc a) 0) (letter_calls p a)
      (runs_below K (size d) (linking p a) (arrow_calls p a)
      (λ q lq. runs-link (λ x. ltb x (size d)) (before p a q) (before p a (suc q)) p a q lp la lq (before_self p a q) (before-next p a q)))
      (same-draft _ _ refl refl (λ x. refl)
      (λ x y z. and_same (d.arrow x y z) _ _ (λ e. before-letter (size d) p a x y z (h.linked x y z e).2)))

  runs-state : (p : ℕ) → Proper K d → p < size d → Runs K (linking p 0 0) (state_calls p) (linking (suc p) 0 0)
  runs-state p h lp =
      runs_to K (linking p 0 0) (linking p (letters d) 0) (linking (suc p) 0 0) (state_calls p)
      (runs_below K (letters d) (λ a. linking p a 0) (letter_calls p) (λ a la. runs-letter p a h lp la))
      (same-draft _ _ refl refl (λ x. refl)
      (λ x y z. and_same (d.arrow x y z) _ _ (λ e. before_state (letters d) p x y z (h.linked x y z e).1)))

  runs-links : Proper K d → Runs K (linking 0 0 0) (link_calls d) (linking (size d) 0 0)
  runs-links h = runs_below K (size d) (λ p. linking p 0 0) state_calls (λ p lp. runs-state p h lp)

  -- from a fresh draft the canonical calls are all accepted and leave the draft
  pub runs_redrawn : Proper K d → Runs K (fresh d.signs) (redrawn d) d
  runs_redrawn h =
      runs_append K (fresh d.signs) (states d.signs d.values) d (grow_calls d) (enter_calls d ++ link_calls d)
      (runs_grow K d.signs [] d.values (omega (arith, h.few)) h.admitted)
      (runs_append K (states d.signs d.values) (entering (size d)) d (enter_calls d) (link_calls d)
      (runs_from K (states d.signs d.values) (entering 0) (entering (size d)) (enter_calls d)
      (same-draft _ _ refl refl
      (λ x. sym (and_right (d.entry x) (ltb x 0) (le-ltb x 0 (omega arith))))
      (λ x y z. sym (and_right (d.arrow x y z) (before 0 0 0 x y z) (before-first x y z))))
      runs-entries)
      (runs_to K (linking 0 0 0) (linking (size d) 0 0) d (link_calls d) (runs-links h)
      (same-draft _ _ refl refl
      (λ x. and_all (d.entry x) (ltb x (size d)) (λ e. lt-ltb x (size d) (h.entered x e)))
      (λ x y z. and_all (d.arrow x y z) (before (size d) 0 0 x y z) (λ e. before_last (size d) x y z (h.linked x y z e).0)))))
