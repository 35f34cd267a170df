use Rattle.std.proofs.Common.{◌≡◌, ℕ, ◌*◌, ◌/◌, ◌%◌, ◌≤◌, List, length, get_or, take, replicate, sym, ap, ◌∙◌, subst, ap₂, arith}
use Rattle.automata.specs.Signs.{BlankPast}
use Rattle.automata.specs.Held.{Bytes, RowsOf}
use Rattle.automata.specs.Shown.{sign_bytes}
use Rattle.automata.proofs.ShownLaws.{sign_count}
use Rattle.drafts.specs.Words.{tabulate}
use Rattle.tables.specs.declared.grid.Grid.{Grid}
use Rattle.tables.specs.Held.{cells_of, cell, Inside, RowsBlank, ColumnsBlank}
use Rattle.tables.specs.Laying.{padded, row_at}
use Rattle.tables.specs.Shown.{shown}
use Rattle.tables.proofs.GridLaws.{values-long}
use Rattle.tables.proofs.Layouts.{no_fault, shaped-parts, below_parts, places-length, places-blank, places-bytes, places-front, laid, laid_columns, laid_below, laid_beside, laid_inside, laid_cells}
use Rattle.tables.proofs.grid.laying.lay.Goals as goal

pub lay_rows-requires : goal.lay_rows-requires
lay_rows-requires g c =
    let s = shaped-parts c.len-letters.result c.args.count (length c.args.values.now) (length c.args.next.now) (sym c.is_shaped.ensures ∙ c.if-not-is_shaped.false) in
    let b = below_parts c.args.count c.args.next.now (sym c.all_below.ensures ∙ c.if-not-all_below.false) in
    let counted : length c.args.values.now ≡ c.args.count = s.2 in
    record {
      few = omega (arith, c.len-letters.ensures, sign_count c.in_ok-signs.signs, c.in_ok-signs.signs.few);
      states = omega (arith, s.1, s.2);
      within = s.3 ∙ ap (λ (n : ℕ). n * c.len-letters.result) (sym counted);
      small = λ k l. omega (arith, b k l, s.1);
    }

pub invariant_of-grid : goal.invariant_of-grid
invariant_of-grid g c =
    let vs = c.args.values.now in
    let next = c.args.next.now in
    let count = c.args.count in
    let n = c.len-letters.result in
    let s = shaped-parts c.len-letters.result c.args.count (length c.args.values.now) (length c.args.next.now) (sym c.is_shaped.ensures ∙ c.if-not-is_shaped.false) in
    let b = below_parts c.args.count c.args.next.now (sym c.all_below.ensures ∙ c.if-not-all_below.false) in
    let wide : c.len-letters.result ≡ c.in_ok-signs.signs.count = c.len-letters.ensures ∙ sign_count c.in_ok-signs.signs in
    let narrow : c.len-letters.result ≤ 16 = omega (arith, wide, c.in_ok-signs.signs.few) in
    let few : length c.args.values.now ≤ 128 = omega (arith, s.1, s.2) in
    let e = sym c.lay_rows.ensures.values in
    let f : laid c.len-letters.result c.args.count c.args.next.now s.1 narrow s.3 ≡ cells_of c.lay_rows.result = sym (c.lay_rows.ensures.cells ∙ ap (λ (m : ℕ). padded 128 (replicate 16 0) m (row_at c.len-letters.result c.args.next.now)) s.2) in
    record {
      some = s.0;
      few = s.1;
      tall = sym (values-long c.lay_rows.result) ∙ (ap length c.lay_rows.ensures.values ∙ places-length vs few);
      bytes = subst Bytes e (places-bytes vs few (λ k. omega (arith, c.type_inv.values k)));
      columns = subst (RowsOf 16) f (laid_columns n count next s.1 narrow s.3);
      blank = subst (λ (xs : List ℕ). BlankPast xs c.args.count) e (λ k l. places-blank vs few k (omega (arith, s.2)));
      inside = subst (λ (rs : List (List ℕ)). Inside rs c.args.count c.in_ok-signs.signs.count) f
          (λ i a li la. laid_inside n count next s.1 narrow s.3 b i a li (omega (arith, wide)));
      below = subst (λ (rs : List (List ℕ)). RowsBlank rs c.args.count) f (laid_below n count next s.1 narrow s.3);
      beside = subst (λ (rs : List (List ℕ)). ColumnsBlank rs c.in_ok-signs.signs.count) f
          (λ i a l. laid_beside n count next s.1 narrow s.3 i a (omega (arith, wide)));
    }

pub returns : goal.returns
returns g c =
    let vs = c.args.values.now in
    let next = c.args.next.now in
    let q = c.in_ok-signs.ensures in
    let shape = sym c.is_shaped.ensures ∙ c.if-not-is_shaped.false in
    let s = shaped-parts c.len-letters.result c.args.count (length c.args.values.now) (length c.args.next.now) (sym c.is_shaped.ensures ∙ c.if-not-is_shaped.false) in
    let wide : c.len-letters.result ≡ c.in_ok-signs.signs.count = c.len-letters.ensures ∙ sign_count c.in_ok-signs.signs in
    let narrow : c.len-letters.result ≤ 16 = omega (arith, wide, c.in_ok-signs.signs.few) in
    let few : length c.args.values.now ≤ 128 = omega (arith, s.1, s.2) in
    let letters : length c.args.signs.now ≡ c.len-letters.result = ap length (sym q.1) ∙ sym c.len-letters.ensures in
    let f : cells_of c.lay_rows.result ≡ laid c.len-letters.result c.args.count c.args.next.now s.1 narrow s.3 =
    c.lay_rows.ensures.cells ∙ ap (λ (m : ℕ). padded 128 (replicate 16 0) m (row_at c.len-letters.result c.args.next.now)) s.2 in (
      no_fault g.K.Kind.model c.args.signs.now c.args.count vs next c.len-letters.result letters q.0 shape
          (sym c.all_below.ensures ∙ c.if-not-all_below.false) (sym c.all_admitted.ensures ∙ c.if-not-all_admitted.false),
      ap (λ (t : Grid). sign_bytes t.signs) c.of.ensures ∙ q.1,
      ap shown c.of.ensures
          ∙ ap₂ (λ (xs ys : List ℕ). record { values = xs; cells = ys })
          (ap (take c.args.count) c.lay_rows.ensures.values
          ∙ (ap (λ (m : ℕ). take m (padded 128 0 (length c.args.values.now) (λ k. get_or c.args.values.now k 0))) (sym s.2) ∙ places-front vs few))
          ((λ i. tabulate (c.args.count * sym wide i) (λ k. cell (f i) (k / sym wide i) (k % sym wide i)))
          ∙ laid_cells c.len-letters.result c.args.count next s.1 narrow s.3),
    )
