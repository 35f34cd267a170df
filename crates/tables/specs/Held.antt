-- What the fields of every grid keep: cells lead to states, and nothing lies past the counts.
use Rattle.std.specs.Prelude.{◌≡◌, ℕ, ◌<◌, ◌≤◌, List, [], map, replicate, slice_index, slice_index_or}
use Rattle.tables.specs.declared.grid.row.Row.{Row}

-- the values of rows, and their next states
abbrev pub values_of : List Row → List ℕ
values_of rows = map (λ r. r.value) rows

abbrev pub cells_of : List Row → List (List ℕ)
cells_of rows = map (λ r. r.next) rows

-- 128 rows in which nothing but 0 stands
abbrev pub no_rows : List Row
no_rows = replicate 128 (record { value = 0; next = replicate 16 0 })

-- the cell in row i under the letter a
abbrev pub cell : List (List ℕ) → ℕ → ℕ → ℕ
cell rows i a = slice_index (slice_index_or rows i []) a

-- cells of the first n rows and m columns are below n
abbrev pub Inside : List (List ℕ) → ℕ → ℕ → Type 0
Inside rows n m = (i a : ℕ) → i < n → a < m → cell rows i a < n

-- all other cells are 0
abbrev pub RowsBlank : List (List ℕ) → ℕ → Type 0
RowsBlank rows n = (i a : ℕ) → n ≤ i → cell rows i a ≡ 0

abbrev pub ColumnsBlank : List (List ℕ) → ℕ → Type 0
ColumnsBlank rows m = (i a : ℕ) → m ≤ a → cell rows i a ≡ 0
