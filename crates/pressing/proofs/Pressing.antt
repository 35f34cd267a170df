-- The law of the press, of tables by their values and cells, and of tables as the calls leave them.
use Rattle.std.proofs.Common.{◌≡◌, ℕ, ◌<◌, ◌↔◌, List, length, get_or, take, None, sym, ap, ◌∙◌, subst, arith}
use Rattle.std.proofs.lemmas.List.{get_or-take}
use Rattle.kinds.specs.Kinds.{KindModel}
use Rattle.automata.specs.Signs.{sign_fault}
use Rattle.automata.specs.Shown.{sign_bytes}
use Rattle.automata.specs.Drafts.{DraftModel, size}
use Rattle.machines.specs.Models.{meaning, Spread}
use Rattle.machines.specs.Tables.{TableModel, count, Admitted, table_machine_model}
use Rattle.machines.proofs.Reading.{built-admitted, built-reads}
use Rattle.tables.specs.declared.grid.Grid.{Grid}
use Rattle.tables.specs.Shown.{shown}
use Rattle.tables.proofs.GridLaws.{shown-count, same_grid}
use Rattle.views.specs.declared.colouring.Colouring.{Colouring}
use Rattle.views.specs.declared.states.Reached.{Reached}
use Rattle.views.specs.Colourings.{plain}
use Rattle.views.specs.TableSays.{table_says}
use Rattle.pressing.specs.Pressed.{Left, DraftPressed}
use Rattle.pressing.specs.Sources.{Made, Source, draft, machine, kind_of, signs_of, acceptable_of, WordOf, value_of}
use Rattle.pressing.specs.Press.{Twice, Pressed, Residual, Atomic, code_of_entry, Agreed, PressLaws}
use Rattle.pressing.specs.Law.{PressedInto, Once, AgreedLeft, LawOfPress}
use Rattle.pressing.proofs.Outcomes.{Outcome, views, draft-outcome, outcome, spread, same_outcome}
use Rattle.pressing.proofs.Minimal.{says, says-meaning}
use Rattle.pressing.proofs.Left.{grid_few, reading_is, twice-built, draft-says, machine-says}
use Rattle.pressing.proofs.Onces.{residual_iff}
use Rattle.pressing.proofs.Atoms.{atomic_iff}

module _ {K : KindModel} {S : Type 0} where
  pub pressed_to : (s : Source K S) (t : Grid) → PressedInto s t → Pressed s (shown t)
  pressed_to (draft d ok made) t (back, last, p, e) = subst (λ g. Pressed {K = K} {S = S} (draft d ok made) (shown g)) e (twice-built p)
  pressed_to (machine m) t (blank, first, back, last, p, e) =
      subst (λ g. Pressed {K = K} {S = S} (machine m) (shown g)) e (
        shown first.table,
        take first.len first.entries,
        grid_few first.table,
        p.built.built,
        subst (λ k. Twice k (shown last.table)) (reading_is m first.table p.built.signs) (twice-built p.twice),
      )

  pub pressed-signs : (s : Source K S) (t : Grid) → PressedInto s t → sign_bytes t.signs ≡ signs_of s
  pressed-signs (draft d ok made) t (back, last, p, e) = ap (λ (g : Grid). sign_bytes g.signs) (sym e) ∙ (p.again.signs ∙ p.built.signs)
  pressed-signs (machine m) t (blank, first, back, last, p, e) =
      ap (λ (g : Grid). sign_bytes g.signs) (sym e) ∙ (p.twice.again.signs ∙ (p.twice.built.signs ∙ p.built.signs))

  pressed-reads : (s : Source K S) (t : Grid) → PressedInto s t → (w : List ℕ) → WordOf s w → table_says (kind_of s) t w ≡ value_of s w
  pressed-reads (draft d ok made) t (back, last, p, e) w o = ap (λ g. table_says K g w) (sym e) ∙ draft-says (views K d ok made) p w o
  pressed-reads (machine m) t (blank, first, back, last, p, e) w o = ap (λ g. table_says m.kind g w) (sym e) ∙ machine-says p w

  pressed-outcome : (s : Source K S) (t : Grid) → PressedInto s t → Outcome (length (signs_of s)) (shown t) (value_of s)
  pressed-outcome s t p = outcome K s (shown t) (pressed_to s t p)

module _ (K : KindModel) (d : DraftModel) (ok : sign_fault d.signs ≡ None) (made : Made K d) (back last : Left Colouring) (p : DraftPressed K d ok back last) where
  as_many : (o : Left Reached) → Once K d ok o → (o.table.count ≡ last.table.count) ↔ Residual K d
  as_many o b =
      let r = residual_iff K d ok made b.built (draft-outcome K d ok made (shown last.table) (twice-built p)) in (
        λ e. r.0 (shown-count o.table ∙ (e ∙ sym (shown-count last.table))),
        λ h. sym (shown-count o.table) ∙ (r.1 h ∙ shown-count last.table),
      )

  -- the entries in use are those that were built
  in_use : (x : Left Colouring) (i q : ℕ) → i < x.len → code_of_entry K (take x.len x.entries) i q ≡ code_of_entry K x.entries i q
  in_use x i q l = ap (λ (c : Colouring). get_or c.codes q K.none) (get_or-take x.len x.entries i (plain 0) l)

  backs : count (shown back.table) ≡ back.len
  backs = shown-count back.table ∙ sym p.built.listed

  rows : length (take last.len last.entries) ≡ last.len
  rows = p.again.built.states ∙ (shown-count last.table ∙ sym p.again.listed)

  there : (q : ℕ) → Agreed K (shown back.table) (take back.len back.entries) (take last.len last.entries) q → AgreedLeft K back last q
  there q h i j l k same =
      sym (in_use back i q l)
      ∙ (h i j (omega (arith, backs)) (omega (arith, backs))
      (λ r lr. let lr' : r < last.len = omega (arith, rows) in in_use last r i lr' ∙ (same r lr' ∙ sym (in_use last r j lr')))
      ∙ in_use back j q k)

  here : (q : ℕ) → AgreedLeft K back last q → Agreed K (shown back.table) (take back.len back.entries) (take last.len last.entries) q
  here q h i j l k same =
      let l' : i < back.len = omega (arith, backs) in
      let k' : j < back.len = omega (arith, backs) in
      in_use back i q l'
      ∙ (h i j l' k' (λ r lr. sym (in_use last r i lr) ∙ (same r (omega (arith, rows)) ∙ in_use last r j lr)) ∙ sym (in_use back j q k'))

  pub pressed-atomic : (q : ℕ) → q < size d → Atomic K d q ↔ AgreedLeft K back last q
  unfolding twice-built
  pressed-atomic q inside =
      let r = atomic_iff K d ok made (shown last.table) q inside (twice-built p) in
      (λ a. there q (r.0 a), λ a. r.1 (here q a))

pub law_of_press_lem : (K : KindModel) (S R : Type 0) → LawOfPress K S R
law_of_press_lem K S R = record {
  reads = pressed-reads;
  fewest = λ s t p m e agree.
      subst (Spread m) (shown-count t)
      (spread m (subst (λ n. Outcome n (shown t) (value_of s)) (sym (ap length e)) (pressed-outcome s t p)) (λ w o. agree w (rw (← e) o)));
  same = λ s r t u p q e.
      let o = same_outcome (pressed-outcome s t p) (subst (λ signs. Outcome (length signs) (shown u) (value_of r)) (sym e) (pressed-outcome r u q)) in
      (λ x. o.0 (ap shown x), λ x. same_grid t u (pressed-signs s t p ∙ (e ∙ sym (pressed-signs r u q))) (o.1 x));
  once = λ d ok made o back last b p. as_many K d ok made back last p o b;
  atomic = λ d ok made back last p. pressed-atomic K d ok made back last p;
}

pressed-admitted : {S : Type 0} (K : KindModel) (s : Source K S) (t : TableModel) → Pressed s t → Admitted (kind_of s) t
pressed-admitted K (draft d ok made) t p = built-admitted p.again
pressed-admitted K (machine m) t p = built-admitted p.4.again

-- the pressed table as a machine says what the table says by its rows
model-says : {S : Type 0} (K : KindModel) (s : Source K S) (t : TableModel) → Pressed s t → (h : Admitted (kind_of s) t) (w : List ℕ) → WordOf s w
    → meaning (table_machine_model (kind_of s) (signs_of s) (acceptable_of s) t h) w ≡ says (length (signs_of s)) t 0 w
model-says K (draft d ok made) t p h w o = built-reads p.again h w ∙ sym (says-meaning p.again w o)
model-says K (machine m) t p h w o = built-reads p.4.again h w ∙ sym (says-meaning p.4.again w o)

pub press_laws_lem : (K : KindModel) (S R : Type 0) → PressLaws K S R
press_laws_lem K S R = record {
  admitted = pressed-admitted K;
  reads = λ s t p h w o. model-says K s t p h w o ∙ (outcome K s t p).reads w o;
  fewest = λ s t p m e agree.
      spread m (subst (λ n. Outcome n t (value_of s)) (sym (ap length e)) (outcome K s t p)) (λ w o. agree w (rw (← e) o));
  same = λ s r t u p q e.
      same_outcome (outcome K s t p) (subst (λ signs. Outcome (length signs) u (value_of r)) (sym e) (outcome K r u q));
  once = λ d ok made o t sets b p. residual_iff K d ok made b (draft-outcome K d ok made t p);
  atomic = λ d ok made t p q h. atomic_iff K d ok made t q h p;
}
