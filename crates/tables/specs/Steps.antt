-- What a part of a build leaves: a table filled further, or the reason of a refusal.
use Rattle.std.specs.Prelude.{◌≡◌, ℕ, suc, ◌+◌, min, List, length, Ok, Err, Result}
use Rattle.machines.specs.Models.{MachineModel, Spread}
use Rattle.tables.specs.Filling.{Filling}

-- row i is filled
abbrev pub RowEnd : {S U E : Type 0} → MachineModel S → S → List S → ℕ → List ℕ → List (List ℕ) → ℕ → Result U E → Type 0
RowEnd m d es len vs rows i (Ok u) = Filling m d es len vs (i + 1) rows (i + 1) 0
RowEnd m d es len vs rows i (Err e) = Spread m (suc (min 128 (length es)))

-- all rows are filled
abbrev pub WalkEnd : {S E : Type 0} → MachineModel S → S → List S → ℕ → List ℕ → List (List ℕ) → Result ℕ E → Type 0
WalkEnd m d es len vs rows (Ok n) = (n ≡ len) × Filling m d es len vs n rows n 0
WalkEnd m d es len vs rows (Err e) = Spread m (suc (min 128 (length es)))
