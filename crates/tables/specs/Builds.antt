-- What building a machine leaves: its table and the roll of its states, or blanks where it reaches too many.
use Rattle.std.specs.Prelude.{◌≡◌, ℕ, suc, ◌≤◌, min, List, length, take, replicate, Ok, Err, Result, slice_index_or}
use Rattle.automata.specs.Shown.{sign_bytes}
use Rattle.machines.specs.Models.{MachineModel, Spread}
use Rattle.machines.specs.Built.{Built}
use Rattle.tables.specs.declared.grid.Grid.{Grid}
use Rattle.tables.specs.declared.grid.building.BuildFault.{BuildFault}
use Rattle.tables.specs.declared.grid.building.BuildFault.TheVariants.{TooMany}
use Rattle.tables.specs.Shown.{shown, Blank}

abbrev pub build_fault_number : BuildFault → ℕ
build_fault_number TooMany = 9

-- The table has the states that words reach, numbered by first reach; the roll holds them in this order, and is blank past them.
pub record Accepted {S : Type 0} (m : MachineModel S) (d : S) (t : Grid) (es : List S) (len : ℕ) : Type 0 where
  pub signs : sign_bytes t.signs ≡ m.signs
  pub built : Built m (shown t) (take len es)
  pub listed : len ≡ t.count
  pub within : len ≤ length es
  pub blank : (k : ℕ) → len ≤ k → slice_index_or es k d ≡ d

-- The table is blank with these signs and the value none, and the roll is empty and blank.
pub record Wiped {S : Type 0} (signs : List ℕ) (none : ℕ) (d : S) (t : Grid) (es : List S) (len : ℕ) : Type 0 where
  pub signed : sign_bytes t.signs ≡ signs
  pub blank : Blank t.signs none t
  pub unlisted : len ≡ 0
  pub blank_roll : es ≡ replicate (length es) d

-- More states are reached than 128 or than there are entries; the table is blank, and the roll empty and blank.
pub record Refused {S : Type 0} (m : MachineModel S) (d : S) (t : Grid) (es : List S) (len : ℕ) : Type 0 where
  pub many : Spread m (suc (min 128 (length es)))
  pub signs : sign_bytes t.signs ≡ m.signs
  pub blank : Blank t.signs m.kind.none t
  pub unlisted : len ≡ 0
  pub blank_roll : es ≡ replicate (length es) d

abbrev pub Ended : {S U : Type 0} → MachineModel S → S → Grid → List S → ℕ → Result U BuildFault → Type 0
Ended m d t es len (Ok u) = Accepted m d t es len
Ended m d t es len (Err e) = Refused m d t es len
