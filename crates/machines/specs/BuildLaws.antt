-- The laws of building, for every two machines, whatever their states are.
use Rattle.std.specs.Prelude.{◌≡◌, ℕ, ◌<◌, ◌≤◌, ◌↔◌, List, map, length}
use Rattle.drafts.specs.Words.{Over}
use Rattle.machines.specs.Models.{MachineModel, alphabet, ends, meaning, Reaches, Covers, Spread}
use Rattle.machines.specs.Tables.{TableModel, count, Admitted, table_machine_model}
use Rattle.machines.specs.Built.{Built}

-- Two machines that say the same, and in which the same words lead to one state.
pub record Alike {S R : Type 0} (m : MachineModel S) (k : MachineModel R) : Type 0 where
  pub signs : m.signs ≡ k.signs
  pub together : (u v : List ℕ) → Over (alphabet m) u → Over (alphabet m) v → (ends m u ≡ ends m v) ↔ (ends k u ≡ ends k v)
  pub says : (w : List ℕ) → Over (alphabet m) w → meaning m w ≡ meaning k w

-- A map of the states that words reach in m to states of k: one to one, and it keeps the start, the steps and the values.
pub record Mapped {S R : Type 0} (m : MachineModel S) (k : MachineModel R) (h : S → R) : Type 0 where
  pub signs : m.signs ≡ k.signs
  pub start : h m.start ≡ k.start
  pub step : (s : S) (a : ℕ) → Reaches m s → a < alphabet m → h (m.step s a) ≡ k.step (h s) a
  pub apart : (s r : S) → Reaches m s → Reaches m r → h s ≡ h r → s ≡ r
  pub value : (s : S) → Reaches m s → m.value s ≡ k.value (h s)

pub record BuildLaws (S R : Type 0) : Type 0 where
  -- the table says of every word what the machine says
  pub admitted : (m : MachineModel S) (t : TableModel) (xs : List S) → Built m t xs → Admitted m.kind t
  pub reads : (m : MachineModel S) (t : TableModel) (xs : List S) → Built m t xs → (h : Admitted m.kind t)
      → (w : List ℕ) → meaning (table_machine_model m.kind m.signs m.acceptable t h) w ≡ meaning m w
  -- a machine has one table, with one list of states
  pub one : (m : MachineModel S) (t u : TableModel) (xs ys : List S) → Built m t xs → Built m u ys → (t ≡ u) × (xs ≡ ys)
  -- machines that are alike have one table
  pub alike : (m : MachineModel S) (k : MachineModel R) (t u : TableModel) (xs : List S) (ys : List R)
      → Alike m k → Built m t xs → Built k u ys → t ≡ u
  -- and a map of the states carries what is built of m to what is built of k
  pub mapped : (m : MachineModel S) (k : MachineModel R) (h : S → R) (t : TableModel) (xs : List S) → Mapped m k h → Built m t xs → Built k t (map h xs)
  -- the count is the number of states that words reach
  pub spread : (m : MachineModel S) (t : TableModel) (xs : List S) → Built m t xs → Spread m (count t)
  pub most : (m : MachineModel S) (t : TableModel) (xs : List S) (c : ℕ) → Built m t xs → Spread m c → c ≤ count t
  pub fewest : (m : MachineModel S) (t : TableModel) (xs ys : List S) → Built m t xs → Covers m ys → count t ≤ length ys
  -- a machine that reaches finitely many states has a table
  pub found : (m : MachineModel S) → Discrete S → (ys : List S) → Covers m ys → (t : TableModel) × (xs : List S) × Built m t xs × (count t ≤ length ys)
