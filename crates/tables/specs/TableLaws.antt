-- The laws of built tables, past the counts too, for every two machines.
use Rattle.std.specs.Prelude.{◌≡◌, ℕ, suc, ◌≤◌, min, List, length}
use Rattle.machines.specs.Models.{MachineModel, meaning, Spread}
use Rattle.machines.specs.Tables.{Admitted, table_machine_model}
use Rattle.machines.specs.BuildLaws.{Alike}
use Rattle.tables.specs.declared.grid.Grid.{Grid}
use Rattle.tables.specs.Shown.{shown}
use Rattle.tables.specs.Builds.{Accepted}

pub record TableLaws (S R : Type 0) : Type 0 where
  -- the table says of every word what the machine says
  pub admitted : (m : MachineModel S) (d : S) (t : Grid) (es : List S) (len : ℕ) → Accepted m d t es len → Admitted m.kind (shown t)
  pub reads : (m : MachineModel S) (d : S) (t : Grid) (es : List S) (len : ℕ) → Accepted m d t es len → (h : Admitted m.kind (shown t))
      → (w : List ℕ) → meaning (table_machine_model m.kind m.signs m.acceptable (shown t) h) w ≡ meaning m w
  -- its count is the number of states that words reach
  pub spread : (m : MachineModel S) (d : S) (t : Grid) (es : List S) (len : ℕ) → Accepted m d t es len → Spread m t.count
  pub most : (m : MachineModel S) (d : S) (t : Grid) (es : List S) (len c : ℕ) → Accepted m d t es len → Spread m c → c ≤ t.count
  -- a machine that is accepted reaches no more states than 128 and than there are entries
  pub exact : (m : MachineModel S) (d : S) (t : Grid) (es : List S) (len : ℕ) → Accepted m d t es len → Spread m (suc (min 128 (length es))) → ⊥
  -- machines in which the same words lead to one state, and which say the same, have equal tables, cell by cell
  pub alike : (m : MachineModel S) (k : MachineModel R) (d : S) (c : R) (t u : Grid) (es : List S) (fs : List R) (len n : ℕ)
      → Accepted m d t es len → Accepted k c u fs n → Alike m k → t ≡ u
