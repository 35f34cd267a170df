use Rattle.std.proofs.Common.{◌≡◌, ℕ, ◌+◌, ◌≤◌, ◌<◌, List, length, get_or, set, replicate, refl, ap, ◌∙◌, mul-le-mul_right, arith}
use Rattle.std.proofs.lemmas.List.{map-set}
use Rattle.tables.specs.declared.grid.row.Row.{Row}
use Rattle.tables.specs.Laying.{padded, row_at}
use Rattle.tables.proofs.Padded.{padded-more}
use Rattle.tables.proofs.grid.laying.lay_rows.Goals as goal

pub lay_row-requires : goal.lay_row-requires
lay_row-requires c =
    let l : c.loop-i.i + 1 ≤ length c.args.values.now = omega (arith, c.loop-i-test.true) in
    record { few = c.requires.few; within = omega (arith, c.requires.within, mul-le-mul_right c.args.letters l); small = c.requires.small }

pub loop-i-preserved : goal.loop-i-preserved
loop-i-preserved c =
    let i = c.loop-i.i in
    let v = get_or c.args.values.now c.loop-i.i 0 in
    let row : Row = record { value = get_or c.args.values.now c.loop-i.i 0; next = c.lay_row.result } in
    let l : c.loop-i.i < 128 = omega (arith, c.loop-i-test.true, c.requires.states) in (
      map-set (λ (r : Row). r.value) c.loop-i.rows i row
          ∙ (ap (λ (vs : List ℕ). set vs i v) c.loop-i.invariant.0 ∙ padded-more 128 0 (λ k. get_or c.args.values.now k 0) i v l refl),
      map-set (λ (r : Row). r.next) c.loop-i.rows i row
          ∙ (ap (λ (rs : List (List ℕ)). set rs i c.lay_row.result) c.loop-i.invariant.1
          ∙ padded-more 128 (replicate 16 0) (row_at c.args.letters c.args.next.now) i c.lay_row.result l c.lay_row.ensures),
    )

pub returns : goal.returns
returns c =
    let e : c.loop-i.i ≡ length c.args.values.now = omega (arith, c.loop-i-test.false, c.loop-i.auto.i-end) in
    record {
      values = c.loop-i.invariant.0 ∙ ap (λ (n : ℕ). padded 128 0 n (λ k. get_or c.args.values.now k 0)) e;
      cells = c.loop-i.invariant.1 ∙ ap (λ (n : ℕ). padded 128 (replicate 16 0) n (row_at c.args.letters c.args.next.now)) e;
    }
