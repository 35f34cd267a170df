use Rattle.std.proofs.Common.{ℕ, ◌*◌, ◌/◌, ◌%◌, List, [], ◌∷◌, length, take, sym, refl, ap, ◌∙◌, subst, ap₂, arith}
use Rattle.automata.specs.Signs.{BlankPast}
use Rattle.automata.specs.Held.{Bytes, RowsOf}
use Rattle.drafts.specs.Words.{tabulate}
use Rattle.tables.specs.Held.{cell, Inside, RowsBlank, ColumnsBlank}
use Rattle.tables.proofs.GridLaws.{values-long, row_none, cell-none, first-bytes, first-blank, blank-cells}
use Rattle.tables.proofs.grid.Grid.blank.Goals as goal

pub invariant_of-result : goal.invariant_of-result
invariant_of-result c =
    let e = sym c.first_row.ensures.values in
    let f = sym c.first_row.ensures.cells in
    record {
      some = omega arith;
      few = omega arith;
      tall = sym (values-long c.first_row.result) ∙ ap length c.first_row.ensures.values;
      bytes = subst Bytes e (first-bytes c.args.value (omega (arith, c.ranges.value)));
      columns = subst (RowsOf 16) f (λ i l. ap length (row_none i l));
      blank = subst (λ (vs : List ℕ). BlankPast vs 1) e (first-blank c.args.value);
      inside = subst (λ (rs : List (List ℕ)). Inside rs 1 c.args.signs.count) f (λ i a li la. omega (arith, cell-none i a));
      below = subst (λ (rs : List (List ℕ)). RowsBlank rs 1) f (λ i a l. cell-none i a);
      beside = subst (λ (rs : List (List ℕ)). ColumnsBlank rs c.args.signs.count) f (λ i a l. cell-none i a);
    }

pub returns : goal.returns
returns c = record {
  signed = refl;
  holds = ap₂ (λ (vs : List ℕ) (rs : List (List ℕ)). record { values = take 1 vs; cells = tabulate (1 * c.args.signs.count) (λ k. cell rs (k / c.args.signs.count) (k % c.args.signs.count)) }) c.first_row.ensures.values c.first_row.ensures.cells
      ∙ ap (λ (cs : List ℕ). record { values = c.args.value ∷ []; cells = cs }) (blank-cells c.args.signs.count);
}
