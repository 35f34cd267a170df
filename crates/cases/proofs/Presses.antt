-- What a press of a draft leaves, where its two builds are known on lists of codes.
use Rattle.std.proofs.Common.{◌≡◌, ℕ, suc, ◌≤◌, min, true, ◌↔◌, List, map, length, take, None, sym, ap, ◌∙◌, subst, subst₂, arith}
use Rattle.kinds.specs.Kinds.{KindModel}
use Rattle.automata.specs.Signs.{sign_fault}
use Rattle.automata.specs.Drafts.{DraftModel, size, letters}
use Rattle.machines.specs.Tables.{TableModel, count}
use Rattle.machines.specs.Built.{Built}
use Rattle.machines.proofs.OneTable.{one_table, one_list}
use Rattle.machines.proofs.Mapping.{mapped-built}
use Rattle.machines.proofs.Counting.{built-most}
use Rattle.tables.specs.declared.grid.Grid.{Grid}
use Rattle.tables.specs.Shown.{shown}
use Rattle.tables.proofs.GridLaws.{shown-count}
use Rattle.views.specs.declared.colouring.Colouring.{Colouring}
use Rattle.views.specs.Colourings.{plain}
use Rattle.views.specs.DraftViews.{backward_draft_model}
use Rattle.views.specs.TableViews.{backward_table_model}
use Rattle.pressing.specs.declared.faults.PressFault.{PressFault}
use Rattle.pressing.specs.declared.faults.PressFault.TheVariants.{First, Backward, Last}
use Rattle.pressing.specs.declared.judging.Verdict.{Verdict}
use Rattle.pressing.specs.Pressed.{Left, Holds, TooMany, reading, TwiceFails, DraftPressed}
use Rattle.pressing.specs.Verdicts.{Judged}
use Rattle.pressing.proofs.Left.{reading_is}
use Rattle.cases.proofs.Painting.{paint, code_machine, code-mapped, listed-codes, draft_coding, draft-painted, table_coding, table-painted}
use Rattle.cases.proofs.Judging.{one_verdict, judges, judges_right}

-- a grid that shows t has as many states
pub shown-states : (g : Grid) (t : TableModel) → shown g ≡ t → g.count ≡ count t
shown-states g t e = sym (shown-count g) ∙ ap count e

module _ (K : KindModel) (d : DraftModel) (ok : sign_fault d.signs ≡ None) (few : size d ≤ 128)
    {bt : TableModel} {cs : List (List ℕ)} (b : Built (code_machine d.signs ok (draft_coding K d)) bt cs) (few-back : count bt ≤ 128)
    {lt : TableModel} {rs : List (List ℕ)} (l : Built (code_machine d.signs ok (table_coding K (letters d) bt)) lt rs) where
  back-built : Built (backward_draft_model K d ok) bt (map (paint K (size d)) cs)
  back-built = mapped-built (code-mapped d.signs ok (draft_coding K d) few (draft-painted K d ok)) b

  last_built : Built (backward_table_model K d.signs ok bt) lt (map (paint K (count bt)) rs)
  last_built = mapped-built (code-mapped d.signs ok (table_coding K (letters d) bt) few-back (table-painted K d.signs ok bt)) l

  -- what is built first, read backward
  read_back : (back : Left Colouring) → Holds (backward_draft_model K d ok) (plain 0) back → reading K back.table ≡ backward_table_model K d.signs ok bt
  read_back back h = reading_is (backward_draft_model K d ok) back.table h.signs ∙ ap (backward_table_model K d.signs ok) (one_table h.built back-built)

  pub enough : (room room' : ℕ) → count bt ≤ room → count lt ≤ room' → count lt ≤ 128 → (f : PressFault)
      → TwiceFails (backward_draft_model K d ok) (plain 0) room room' f → ⊥
  enough room room' h h' few-last First x = x
  enough room room' h h' few-last Backward x = omega (arith, built-most back-built (suc (min 128 room)) x)
  enough room room' h h' few-last Last x = omega (arith, built-most last_built (suc (min 128 room')) (subst (λ k. TooMany k room') (read_back x.0 x.1) x.3))

  module _ (back last : Left Colouring) (p : DraftPressed K d ok back last) where
    again : Built (backward_table_model K d.signs ok bt) (shown last.table) (take last.len last.entries)
    again = subst (λ k. Built k (shown last.table) (take last.len last.entries)) (read_back back p.built) p.again.built

    pub back_is : shown back.table ≡ bt
    back_is = one_table p.built.built back-built

    pub last_is : shown last.table ≡ lt
    last_is = one_table again last_built

    back-listed : back.len ≡ length cs
    back-listed = p.built.listed ∙ shown-states back.table bt back_is ∙ sym b.states

    last-listed : last.len ≡ length rs
    last-listed = p.again.listed ∙ shown-states last.table lt last_is ∙ sym l.states

    right : (q : ℕ) (v : Verdict) → judges K cs rs q v ≡ true → Judged K back.entries back.len last.entries last.len q v
    right q v passes =
        subst₂ (λ n m. Judged K back.entries n last.entries m q v) (sym back-listed) (sym last-listed)
        (judges_right K cs rs q back.entries last.entries
        (λ i li. listed-codes d.signs ok (draft_coding K d) few b back.entries back.len back-listed (one_list p.built.built back-built) i (omega (arith, back-listed)))
        (λ i li. listed-codes d.signs ok (table_coding K (letters d) bt) few-back l last.entries last.len last-listed (one_list again last_built) i (omega (arith, last-listed)))
        v passes)

    pub judged_is : (q : ℕ) (v : Verdict) → judges K cs rs q v ≡ true → (w : Verdict)
        → Judged K back.entries back.len last.entries last.len q w ↔ (w ≡ v)
    judged_is q v passes w = (
      λ h. one_verdict K back.entries back.len last.entries last.len q w v h (right q v passes),
      λ e. subst (Judged K back.entries back.len last.entries last.len q) (sym e) (right q v passes),
    )
