-- A table as it is filled from a machine: the first states of a roll, the first values, and the cells before one place.
use Rattle.std.specs.Prelude.{◌≡◌, ℕ, ◌+◌, ◌*◌, ◌/◌, ◌%◌, ◌<◌, ◌≤◌, List, length, take, slice_index_or}
use Rattle.automata.specs.Signs.{BlankPast}
use Rattle.automata.specs.Held.{Bytes, RowsOf}
use Rattle.drafts.specs.Words.{tabulate}
use Rattle.machines.specs.Models.{MachineModel, alphabet}
use Rattle.machines.proofs.Growing.{Grown}
use Rattle.tables.specs.Held.{cell, ColumnsBlank}

-- the first k cells of rows of n
abbrev pub cells_up_to : ℕ → List (List ℕ) → ℕ → List ℕ
cells_up_to n rows k = tabulate k (λ l. cell rows (l / n) (l % n))

-- len entries of es are states found so far, v values are written, and so are the cells before row i, letter a; d is blank
pub record Filling {S : Type 0} (m : MachineModel S) (d : S) (es : List S) (len : ℕ) (vs : List ℕ) (v : ℕ) (rows : List (List ℕ)) (i a : ℕ) : Type 0 where
  pub grown : Grown m (take len es) (take v vs) (cells_up_to (alphabet m) rows (i * alphabet m + a)) i a
  pub few : len ≤ 128
  pub within : len ≤ length es
  pub fresh : (k : ℕ) → len ≤ k → slice_index_or es k d ≡ d
  pub wide : length vs ≡ 128
  pub bytes : Bytes vs
  pub unvalued : BlankPast vs v
  pub tall : length rows ≡ 128
  pub columns : RowsOf 16 rows
  pub unfilled : (p b : ℕ) → b < alphabet m → i * alphabet m + a ≤ p * alphabet m + b → cell rows p b ≡ 0
  pub beside : ColumnsBlank rows (alphabet m)
