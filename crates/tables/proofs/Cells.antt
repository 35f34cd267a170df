-- Cells of rows, one after another: the row and the letter of a cell's number.
use Rattle.std.proofs.Common.{◌≡◌, ℕ, ◌+◌, ◌*◌, ◌/◌, ◌%◌, ◌<◌, List, get_or, ◌∙◌, ap₂}
use lib.Arith.{digits_div, digits_mod}
use Rattle.drafts.specs.Words.{tabulate}
use Rattle.drafts.proofs.Tabulates.{get_d_tabulate}
use Rattle.machines.proofs.Numbers.{row_fits}
use Rattle.tables.specs.Held.{cell}

-- cell number i * n + a
pub cell_at : (rows : List (List ℕ)) (n i a : ℕ) → a < n → cell rows ((i * n + a) / n) ((i * n + a) % n) ≡ cell rows i a
cell_at rows n i a l = ap₂ (cell rows) (digits_div i l) (digits_mod i l)

pub cells_at : (rows : List (List ℕ)) (c n i a : ℕ) → i < c → a < n → get_or (tabulate (c * n) (λ k. cell rows (k / n) (k % n))) (i * n + a) 0 ≡ cell rows i a
cells_at rows c n i a li la = get_d_tabulate (c * n) (λ k. cell rows (k / n) (k % n)) (i * n + a) 0 (row_fits n c i a la li) ∙ cell_at rows n i a la
