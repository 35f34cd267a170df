-- What a press comes to: a minimal table that says what its source says. Minimal tables that say the same are equal.
use Rattle.std.proofs.Common.{◌≡◌, ℕ, ◌<◌, ◌↔◌, List, [], ◌∷◌, ◌++◌, reverse, length, get_or, None, sym, ap, ◌∙◌, subst, arith}
use mathlib.Core.List.{reverse-reverse}
use Rattle.kinds.specs.Kinds.{KindModel}
use Rattle.automata.specs.Signs.{sign_fault}
use Rattle.automata.specs.Drafts.{DraftModel, letters}
use Rattle.drafts.specs.Canonical.{Proper}
use Rattle.drafts.specs.Words.{Over, run, value}
use Rattle.drafts.proofs.Runs.{run-append, over-append, over-reverse}
use Rattle.drafts.proofs.ListLaws.{call_laws_lem}
use Rattle.machines.specs.Models.{MachineModel, alphabet, ends, meaning, Spread}
use Rattle.machines.specs.Tables.{TableModel, count, next}
use Rattle.machines.proofs.Walks.{walk_inside}
use Rattle.machines.proofs.Spreads.{choose}
use Rattle.machines.proofs.Lockstep.{Tied, tied_table}
use Rattle.views.specs.DraftViews.{backward_draft_model}
use Rattle.views.specs.ViewLaws.{DraftViewLaws}
use Rattle.views.proofs.DraftReversal.{draft_view_laws}
use Rattle.pressing.specs.Sources.{Made, Source, draft, machine, signs_of, value_of}
use Rattle.pressing.specs.Press.{Twice, Pressed}
use Rattle.pressing.proofs.Minimal.{says, Led, Minimal, back-meaning, back-minimal, back-says}

pub record Outcome (n : ℕ) (t : TableModel) (f : List ℕ → ℕ) : Type 0 where
  pub minimal : Minimal n t
  pub reads : (w : List ℕ) → Over n w → says n t 0 w ≡ f w

pub twice-outcome : {S : Type 0} {m : MachineModel S} {t : TableModel} (f : List ℕ → ℕ) → Twice m t
    → ((w : List ℕ) → Over (alphabet m) w → f w ≡ meaning m (reverse w)) → Outcome (alphabet m) t f
twice-outcome f p dual = record { minimal = back-minimal p.built p.few p.again; reads = λ w o. back-says p.built p.few p.again w o ∙ sym (dual w o) }

pub made-proper : (K : KindModel) (d : DraftModel) → Made K d → Proper K d
made-proper K d made = subst (Proper K) made.1 ((call_laws_lem K).proper d.signs made.0)

module _ (K : KindModel) (d : DraftModel) (ok : sign_fault d.signs ≡ None) (made : Made K d) where
  pub views : DraftViewLaws K d ok
  views = draft_view_laws K d (made-proper K d made).few ok

  -- a draft read backward says of a word turned round what the draft says of it
  draft-dual : (w : List ℕ) → Over (letters d) w → value K d w ≡ meaning (backward_draft_model K d ok) (reverse w)
  draft-dual w o = ap (value K d) (sym (reverse-reverse w)) ∙ sym (views.backward (reverse w) (over-reverse (letters d) w o))

  pub draft-outcome : (t : TableModel) → Twice (backward_draft_model K d ok) t → Outcome (letters d) t (value K d)
  draft-outcome t p = twice-outcome (value K d) p draft-dual

pub outcome : {S : Type 0} (K : KindModel) (s : Source K S) (t : TableModel) → Pressed s t → Outcome (length (signs_of s)) t (value_of s)
outcome K (draft d ok made) t p = draft-outcome K d ok made t p
outcome K (machine m) t p = twice-outcome (meaning m) p.4 (λ w o. sym (back-meaning p.3 p.2 w o))

-- a word for each state
pub words : (n : ℕ) (t : TableModel) → ((i : ℕ) → i < count t → Led n t i)
    → (word : ℕ → List ℕ) × ((i : ℕ) → i < count t → Over n (word i) × (run (next n t) 0 (word i) ≡ i))
words n t all = choose (count t) (λ i w. Over n w × (run (next n t) 0 w ≡ i)) [] (λ i h. let r = all i h in (r.0, (r.1, r.2)))

module _ {n : ℕ} {t : TableModel} {f : List ℕ → ℕ} (out : Outcome n t f) where
  pub says-after : (u w : List ℕ) → Over n u → Over n w → says n t (run (next n t) 0 u) w ≡ f (u ++ w)
  says-after u w o p = ap (λ i. get_or t.values i 0) (sym (run-append (next n t) 0 u w)) ∙ out.reads (u ++ w) (over-append n u w o p)

  -- words lead to one state exactly if nothing after them tells them apart
  pub one_state : (u v : List ℕ) → Over n u → Over n v → ((w : List ℕ) → Over n w → f (u ++ w) ≡ f (v ++ w)) → run (next n t) 0 u ≡ run (next n t) 0 v
  one_state u v o p e =
      let m = out.minimal in
      m.apart (run (next n t) 0 u) (run (next n t) 0 v) (walk_inside n t m.inside 0 u m.some o) (walk_inside n t m.inside 0 v m.some p)
      (λ w q. says-after u w o q ∙ e w q ∙ sym (says-after v w p q))

  pub state_one : (u v : List ℕ) → Over n u → Over n v → run (next n t) 0 u ≡ run (next n t) 0 v → (w : List ℕ) → Over n w → f (u ++ w) ≡ f (v ++ w)
  state_one u v o p e w q = sym (says-after u w o q) ∙ ap (λ i. says n t i w) e ∙ says-after v w p q

-- in a machine, words that lead to one state are not told apart
pub futures : {S : Type 0} (m : MachineModel S) (u v : List ℕ) → ends m u ≡ ends m v → (w : List ℕ) → meaning m (u ++ w) ≡ meaning m (v ++ w)
futures m u v e w = ap m.value (run-append m.step m.start u w ∙ ap (λ s. run m.step s w) e ∙ sym (run-append m.step m.start v w))

-- a machine that says the same reaches as many states
pub spread : {R : Type 0} (m : MachineModel R) {t : TableModel} {f : List ℕ → ℕ} → Outcome (alphabet m) t f
    → ((w : List ℕ) → Over (alphabet m) w → meaning m w ≡ f w) → Spread m (count t)
spread m {t} out agree =
    let r = words (alphabet m) t out.minimal.led in
    record {
      word = r.0;
      over = λ i h. (r.1 i h).0;
      differ = λ i j h k e.
          let hi : i < count t = omega arith in
          let u = r.0 i in
          let v = r.0 j in
          let one = one_state out u v (r.1 i hi).0 (r.1 j k).0 (λ w o.
          sym (agree (u ++ w) (over-append (alphabet m) u w (r.1 i hi).0 o)) ∙ futures m u v e w ∙ agree (v ++ w) (over-append (alphabet m) v w (r.1 j k).0 o)) in
          omega (arith, sym (r.1 i hi).1 ∙ one ∙ (r.1 j k).1);
    }

module _ {n : ℕ} {t u : TableModel} {f g : List ℕ → ℕ} (a : Outcome n t f) (b : Outcome n u g) where
  -- a state of t and one of u that say the same
  abbrev Twins : ℕ → ℕ → Type 0
  Twins i j = (i < count t) × (j < count u) × ((w : List ℕ) → Over n w → says n t i w ≡ says n u j w)

  twins : ((w : List ℕ) → Over n w → f w ≡ g w) → Tied n t u Twins
  twins e =
      let mt = a.minimal in
      let mu = b.minimal in
      record {
        left = λ i j r. r.0;
        right = λ i j r. r.1;
        base = (mt.some, mu.some, λ w o. a.reads w o ∙ e w o ∙ sym (b.reads w o));
        step = λ i j a r h. (mt.inside i a r.0 h, mu.inside j a r.1 h, λ w o. r.2 (a ∷ w) (h, o));
        one_right = λ i j k r s. mu.apart j k r.1 s.1 (λ w o. sym (r.2 w o) ∙ s.2 w o);
        one_left = λ i j k r s. mt.apart i j r.0 s.0 (λ w o. r.2 w o ∙ sym (s.2 w o));
      }

  pub same_outcome : (t ≡ u) ↔ ((w : List ℕ) → Over n w → f w ≡ g w)
  same_outcome = (
    λ e w o. sym (a.reads w o) ∙ ap (λ x. says n x 0 w) e ∙ b.reads w o,
    λ e. tied_table (twins e) a.minimal.order b.minimal.order a.minimal.sized b.minimal.sized (λ i r. r.2 [] tt),
  )
