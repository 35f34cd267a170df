-- A state of a draft is atomic exactly if the rows of the press determine its code in each column.
use Rattle.std.proofs.Common.{◌≡◌, ℕ, ◌<◌, true, ◌↔◌, List, ◌++◌, reverse, get_or, None, sym, refl, ap, ◌∙◌}
use mathlib.Core.List.{reverse-reverse}
use Rattle.std.proofs.lemmas.List.{get_or_default}
use Rattle.kinds.specs.Kinds.{KindModel}
use Rattle.automata.specs.Signs.{sign_fault}
use Rattle.automata.specs.Drafts.{DraftModel, size, letters}
use Rattle.drafts.specs.Words.{Over, run, value, value_from}
use Rattle.drafts.proofs.Runs.{over-reverse}
use Rattle.machines.specs.Tables.{TableModel, count, next}
use Rattle.machines.proofs.Walks.{leads, lands}
use Rattle.machines.proofs.FirstWords.{built_walked}
use Rattle.views.specs.declared.colouring.Colouring.{Colouring}
use Rattle.views.specs.Colourings.{plain}
use Rattle.views.specs.DraftViews.{code_of_state, backward_draft_model}
use Rattle.views.specs.TableViews.{backward_table_model}
use Rattle.pressing.specs.Sources.{Made}
use Rattle.pressing.specs.Press.{Twice, Atomic, code_of_entry, Agreed}
use Rattle.pressing.proofs.Minimal.{says, Led, built-led, code-says}
use Rattle.pressing.proofs.Outcomes.{Outcome, made-proper, views, draft-outcome, says-after}

module _ (K : KindModel) (d : DraftModel) (ok : sign_fault d.signs ≡ None) (made : Made K d) (t : TableModel) (q : ℕ) (inside : q < size d)
    (p : Twice (backward_draft_model K d ok) t) where
  out : Outcome (letters d) t (value K d)
  out = draft-outcome K d ok made t p

  -- the code in a row and a column is what the draft says of a word to the row and, turned round, a word to the column
  chart : (r i : ℕ) → r < count t → i < count p.back → (x : Led (letters d) t r) (y : Led (letters d) p.back i)
      → code_of_entry K p.rows r i ≡ value K d (x.0 ++ reverse y.0)
  chart r i l k x y =
      ap (λ (c : Colouring). get_or c.codes i K.none) (get_or_default p.rows r (plain 0) (backward_table_model K d.signs ok p.back).start (rw p.again.states l))
      ∙ code-says p.built p.few p.again r i l k y
      ∙ ap (λ s. says (letters d) t s (reverse y.0)) (sym x.2)
      ∙ says-after out x.0 (reverse y.0) x.1 (over-reverse (letters d) y.0 y.1)

  admitted : (k : ℕ) → k < size d → K.admits (code_of_state K d k) ≡ true
  admitted k l = ap K.admits (get_or_default d.values k K.none 0 l) ∙ (made-proper K d made).admitted k l

  -- the code of q in a column is what q says of a word to the column, turned round
  column : (i : ℕ) → i < count p.back → (y : Led (letters d) p.back i) → code_of_entry K p.columns i q ≡ value_from K d q (reverse y.0)
  column i l y =
      ap (λ (c : Colouring). get_or c.codes q K.none)
      (get_or_default p.columns i (plain 0) (backward_draft_model K d ok).start (rw p.built.states l)
      ∙ ap (λ k. get_or p.columns k (backward_draft_model K d ok).start) (sym y.2)
      ∙ sym (leads (built_walked p.built) y.0 y.1))
      ∙ (views K d ok made).admitted_codes admitted y.0 y.1 q inside

  there : Atomic K d q → Agreed K p.back p.columns p.rows q
  there atomic i j l k same =
      let y = built-led p.built i l in
      let z = built-led p.built j k in
      column i l y
      ∙ atomic (reverse y.0) (reverse z.0) (over-reverse (letters d) y.0 y.1) (over-reverse (letters d) z.0 z.1)
      (λ x o.
      let r = run (next (letters d) t) 0 x in
      let lr = lands (built_walked p.again) x o in
      sym (chart r i lr l (x, o, refl) y) ∙ same r (rw p.again.states lr) ∙ chart r j lr k (x, o, refl) z)
      ∙ sym (column j k z)

  back : Agreed K p.back p.columns p.rows q → Atomic K d q
  back agreed u v o o' e =
      column-of u o
      ∙ agreed (at u) (at v) (inside-at u o) (inside-at v o')
      (λ r l.
      let l' : r < count t = rw p.again.states at l in
      let x = built-led p.again r l' in
      chart-of x u o l' ∙ e x.0 x.1 ∙ sym (chart-of x v o' l'))
      ∙ sym (column-of v o')
    where
      at : List ℕ → ℕ
      at w = run (next (letters d) p.back) 0 (reverse w)

      inside-at : (w : List ℕ) → Over (letters d) w → at w < count p.back
      inside-at w l = lands (built_walked p.built) (reverse w) (over-reverse (letters d) w l)

      to : (w : List ℕ) → Over (letters d) w → Led (letters d) p.back (at w)
      to w l = (reverse w, over-reverse (letters d) w l, refl)

      column-of : (w : List ℕ) → Over (letters d) w → value_from K d q w ≡ code_of_entry K p.columns (at w) q
      column-of w l = ap (value_from K d q) (sym (reverse-reverse w)) ∙ sym (column (at w) (inside-at w l) (to w l))

      chart-of : {r : ℕ} (x : Led (letters d) t r) (w : List ℕ) → Over (letters d) w → r < count t → code_of_entry K p.rows r (at w) ≡ value K d (x.0 ++ w)
      chart-of {r} x w l h = chart r (at w) h (inside-at w l) x (to w l) ∙ ap (λ s. value K d (x.0 ++ s)) (reverse-reverse w)

  pub atomic_iff : Atomic K d q ↔ Agreed K p.back p.columns p.rows q
  atomic_iff = (there, back)
