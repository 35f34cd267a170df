-- What the fields of a grid stand for: a value for each state, and the rows one after another.
use Rattle.std.specs.Prelude.{◌≡◌, ℕ, ◌*◌, ◌/◌, ◌%◌, [], ◌∷◌, take, replicate}
use Rattle.automata.specs.declared.signs.Signs.{Signs}
use Rattle.drafts.specs.Words.{tabulate}
use Rattle.machines.specs.Tables.{TableModel}
use Rattle.tables.specs.declared.grid.Grid.{Grid}
use Rattle.tables.specs.Held.{values_of, cells_of, cell}

abbrev pub shown : Grid → TableModel
shown t = record {
  values = take t.count (values_of t.rows);
  cells = tabulate (t.count * t.signs.count) (λ k. cell (cells_of t.rows) (k / t.signs.count) (k % t.signs.count));
}

-- one state with this value, which leads to itself
pub record Blank (signs : Signs) (value : ℕ) (t : Grid) : Type 0 where
  pub signed : t.signs ≡ signs
  pub holds : shown t ≡ record { values = value ∷ []; cells = replicate signs.count 0 }
