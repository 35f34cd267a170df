-- What a grid shows, and that two grids that show the same are equal.
use Rattle.std.proofs.Common.{◌≡◌, ℕ, zero, suc, ◌+◌, ◌*◌, ◌/◌, ◌%◌, ◌<◌, ◌≤◌, true, cond, ◌&&◌, nat_lt, List, [], ◌∷◌, length, drop, get_or, take, replicate, Some, None, sym, refl, ap, ◌∙◌, inl, inr, arith}
use mathlib.Core.HLevel.{is_prop→PathP}
use denote.Struct.Props.{props}
use lib.ListN.{length-replicate}
use Rattle.std.proofs.lemmas.List.{length-map, get_or-take, length-take-le, get_or-replicate, get_or_past, ext_get_or}
use Rattle.std.proofs.Math.ListN.{get_or-map}
use Rattle.std.proofs.lemmas.Bool.{lt-ltb, cases_lt, and_from, cond-true}
use Rattle.automata.specs.declared.signs.Signs.{Signs}
use Rattle.automata.specs.Signs.{BlankPast}
use Rattle.automata.specs.Held.{Bytes, RowsOf}
use Rattle.automata.specs.Shown.{sign_bytes}
use Rattle.automata.proofs.ShownLaws.{sign_count}
use Rattle.automata.proofs.HeldEqual.{same-signs, filled}
use Rattle.drafts.specs.Words.{tabulate}
use Rattle.drafts.proofs.Tabulates.{is_tabulate}
use Rattle.machines.specs.Tables.{TableModel, count, next}
use Rattle.tables.specs.declared.grid.Grid.{Grid}
use Rattle.tables.specs.declared.grid.row.Row.{Row}
use Rattle.tables.specs.Held.{values_of, cells_of, no_rows, cell, Inside, RowsBlank, ColumnsBlank}
use Rattle.tables.specs.Shown.{shown}
use Rattle.tables.proofs.Cells.{cells_at}

-- no cell but 0
abbrev pub no_cells : List (List ℕ)
no_cells = replicate 128 (replicate 16 0)

-- rows, by their values and their next states
pub values-long : (rows : List Row) → length (values_of rows) ≡ length rows
values-long rows = length-map rows _

pub cells-long : (rows : List Row) → length (cells_of rows) ≡ length rows
cells-long rows = length-map rows _

pub values-none : values_of no_rows ≡ replicate 128 0
values-none = refl

pub cells-nothing : cells_of no_rows ≡ no_cells
cells-nothing = refl

-- what is read past the rows
abbrev pub past_rows : Row
past_rows = record { value = 0; next = [] }

-- a cell, as the code reads it
pub cell_read : (rows : List Row) (count n i a : ℕ) (row : Row) (x : ℕ) → i < count → row ≡ get_or (take count rows) i past_rows → a < n → x ≡ get_or (take n row.next) a 0 → x ≡ cell (cells_of rows) i a
cell_read rows count n i a row x li r la e =
    e ∙ (get_or-take n row.next a 0 la
    ∙ (ap (λ (o : Row). get_or o.next a 0) (r ∙ get_or-take count rows i past_rows li)
    ∙ sym (ap (λ (cs : List ℕ). get_or cs a 0) (get_or-map (λ r. r.next) rows i past_rows))))

rows_by : (rows others : List Row) → values_of rows ≡ values_of others → cells_of rows ≡ cells_of others → rows ≡ others
rows_by [] [] v c = refl
rows_by [] (r ∷ rs) v c = absurd (omega (arith, ap length v))
rows_by (r ∷ rs) [] v c = absurd (omega (arith, ap length v))
rows_by (r ∷ rs) (o ∷ os) v c =
    let value : r.value ≡ o.value = ap (λ (xs : List ℕ). get_or xs 0 0) v in
    let next : r.next ≡ o.next = ap (λ (xs : List (List ℕ)). get_or xs 0 []) c in
    let rest : rs ≡ os = rows_by rs os (ap (drop 1) v) (ap (drop 1) c) in
    λ i. record { value = value i; next = next i } ∷ rest i

module _ (t : Grid) where
  pub shown-count : count (shown t) ≡ t.count
  shown-count = length-take-le t.count (values_of t.rows) (omega (arith, values-long t.rows, t.tall, t.few))

  pub shown-value : (i : ℕ) → i < t.count → get_or (shown t).values i 0 ≡ get_or (values_of t.rows) i 0
  shown-value i l = get_or-take t.count (values_of t.rows) i 0 l

  pub shown-next : (i a : ℕ) → i < t.count → a < t.signs.count → next t.signs.count (shown t) i a ≡ cell (cells_of t.rows) i a
  shown-next i a li la = cells_at (cells_of t.rows) t.count t.signs.count i a li la

  -- the next state, as the code reads it
  pub next_is : (i a r : ℕ) → i < t.count → a < t.signs.count → r ≡ cell (cells_of t.rows) i a
      → Some r ≡ cond (nat_lt i (count (shown t)) && nat_lt a (length (sign_bytes t.signs))) (Some (next (length (sign_bytes t.signs)) (shown t) i a)) None
  next_is i a r li la e =
      let yes : (nat_lt i (count (shown t)) && nat_lt a (length (sign_bytes t.signs))) ≡ true =
      and_from _ _ (lt-ltb i (count (shown t)) (rw shown-count li)) (lt-ltb a (length (sign_bytes t.signs)) (rw (sign_count t.signs) la)) in
      ap Some (e ∙ (sym (shown-next i a li la) ∙ ap (λ (n : ℕ). next n (shown t) i a) (sym (sign_count t.signs)))) ∙ sym (cond-true _ _ None yes)

zeros : (n k : ℕ) → get_or {A = ℕ} (replicate n 0) k 0 ≡ 0
zeros n k = elim (cases_lt k n) [ inl l ↦ get_or-replicate n k 0 0 l | inr g ↦ get_or_past (replicate n 0) k 0 (simp length-replicate (omega arith)) ]

pub row_none : (i : ℕ) → i < 128 → get_or no_cells i [] ≡ replicate 16 0
row_none i l = get_or-replicate 128 i (replicate 16 0) [] l

pub cell-none : (i a : ℕ) → cell no_cells i a ≡ 0
cell-none i a =
    elim (cases_lt i 128) [
      | inl l ↦ ap (λ (r : List ℕ). get_or r a 0) (row_none i l) ∙ zeros 16 a
      | inr g ↦ ap (λ (r : List ℕ). get_or r a 0) (get_or_past no_cells i [] (simp length-replicate g))
    ]

-- the places of a blank grid
pub first-bytes : (v : ℕ) → v < 256 → Bytes (v ∷ replicate 127 0)
first-bytes v l zero = l
first-bytes v l (suc k) = omega (arith, zeros 127 k)

pub first-blank : (v : ℕ) → BlankPast (v ∷ replicate 127 0) 1
first-blank v zero l = absurd (omega arith)
first-blank v (suc k) l = zeros 127 k

pub blank-cells : (n : ℕ) → tabulate (1 * n) (λ k. cell no_cells (k / n) (k % n)) ≡ replicate n 0
blank-cells n =
    let e : 1 * n ≡ n = omega arith in
    ap (λ (m : ℕ). tabulate m (λ k. cell no_cells (k / n) (k % n))) e
    ∙ sym (is_tabulate 0 n (λ k. cell no_cells (k / n) (k % n)) (replicate n 0) (length-replicate n 0)
    (λ i l. get_or-replicate n i 0 0 l ∙ sym (cell-none (i / n) (i % n))))

grid_by : (t u : Grid) → t.signs ≡ u.signs → t.count ≡ u.count → t.rows ≡ u.rows → t ≡ u
grid_by t u s n r = λ i. record {
  signs = s i;
  count = n i;
  rows = r i;
  some = is_prop→PathP (λ j. 1 ≤ n j) (λ j. hlevel props) t.some u.some i;
  few = is_prop→PathP (λ j. n j ≤ 128) (λ j. hlevel props) t.few u.few i;
  tall = is_prop→PathP (λ j. length (r j) ≡ 128) (λ j. hlevel props) t.tall u.tall i;
  bytes = is_prop→PathP (λ j. Bytes (values_of (r j))) (λ j. hlevel props) t.bytes u.bytes i;
  columns = is_prop→PathP (λ j. RowsOf 16 (cells_of (r j))) (λ j. hlevel props) t.columns u.columns i;
  blank = is_prop→PathP (λ j. BlankPast (values_of (r j)) (n j)) (λ j. hlevel props) t.blank u.blank i;
  inside = is_prop→PathP (λ j. Inside (cells_of (r j)) (n j) (s j).count) (λ j. hlevel props) t.inside u.inside i;
  below = is_prop→PathP (λ j. RowsBlank (cells_of (r j)) (n j)) (λ j. hlevel props) t.below u.below i;
  beside = is_prop→PathP (λ j. ColumnsBlank (cells_of (r j)) (s j).count) (λ j. hlevel props) t.beside u.beside i;
}

same-cells : (t u : Grid) → t.count ≡ u.count → t.signs.count ≡ u.signs.count → (shown t).cells ≡ (shown u).cells → (i a : ℕ) → cell (cells_of t.rows) i a ≡ cell (cells_of u.rows) i a
same-cells t u n m e i a =
    elim (cases_lt i t.count) [
      | inl li ↦ elim (cases_lt a t.signs.count) [
        | inl la ↦
            sym (shown-next t i a li la)
            ∙ (ap (λ (cs : List ℕ). get_or cs (i * t.signs.count + a) 0) e
            ∙ (ap (λ (k : ℕ). get_or (shown u).cells (i * k + a) 0) m ∙ shown-next u i a (omega arith) (omega arith)))
        | inr ga ↦ t.beside i a ga ∙ sym (u.beside i a (omega arith))
      ]
      | inr gi ↦ t.below i a gi ∙ sym (u.below i a (omega arith))
    ]

-- Two grids with the same signs that show the same table are equal, past the counts too.
pub same_grid : (t u : Grid) → sign_bytes t.signs ≡ sign_bytes u.signs → shown t ≡ shown u → t ≡ u
same_grid t u s h =
    let n : t.count ≡ u.count = sym (shown-count t) ∙ (ap count h ∙ shown-count u) in
    let signs : t.signs ≡ u.signs = same-signs t.signs u.signs s in
    let tall : length t.rows ≡ length u.rows = t.tall ∙ sym u.tall in
    grid_by t u signs n
    (rows_by t.rows u.rows
    (filled 128 t.count (values_of t.rows) (values_of u.rows) (values-long t.rows ∙ t.tall) (values-long u.rows ∙ u.tall)
    (ap (λ (m : TableModel). m.values) h ∙ ap (λ (k : ℕ). take k (values_of u.rows)) (sym n)) t.blank (λ k l. u.blank k (omega arith)))
    (ext_get_or [] (cells_of t.rows) (cells_of u.rows) (cells-long t.rows ∙ (tall ∙ sym (cells-long u.rows)))
    (λ i l. let lu : i < length (cells_of u.rows) = omega (arith, cells-long t.rows, cells-long u.rows, tall) in
    ext_get_or 0 (get_or (cells_of t.rows) i []) (get_or (cells_of u.rows) i []) (t.columns i l ∙ sym (u.columns i lu))
    (λ a la. same-cells t u n (ap (λ (x : Signs). x.count) signs) (ap (λ (m : TableModel). m.cells) h) i a))))
