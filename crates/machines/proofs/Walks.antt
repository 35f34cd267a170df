-- Walks: a table of a machine whose states are numbered in the order in which the cells, row after row, first name them.
use Rattle.std.proofs.Common.{◌≡◌, ℕ, ◌*◌, ◌<◌, List, [], ◌∷◌, length, get_or, sym, refl, ap, ◌∙◌}
use Rattle.drafts.specs.Words.{Over, run}
use Rattle.machines.specs.Models.{MachineModel, alphabet, ends}
use Rattle.machines.specs.Tables.{TableModel, count, next}
use Rattle.machines.specs.Built.{entry}

-- k is the first cell that names the state i
abbrev pub FirstCell : List ℕ → ℕ → ℕ → Type 0
FirstCell cells i k = (get_or cells k 0 ≡ i) × ((l : ℕ) → l < k → get_or cells l 0 < i)

-- each state but the first is first named in a row before its own
abbrev pub ByFirstReach : ℕ → TableModel → Type 0
ByFirstReach n t = (i : ℕ) → 0 < i → i < count t → (k : ℕ) × (k < i * n) × FirstCell t.cells i k

-- xs are states of m, each once, from the start on, numbered by first reach; t has their values and steps.
pub record Walked {S : Type 0} (m : MachineModel S) (t : TableModel) (xs : List S) : Type 0 where
  pub states : length xs ≡ count t
  pub sized : length t.cells ≡ count t * alphabet m
  pub some : 0 < count t
  pub first : entry m xs 0 ≡ m.start
  pub apart : (i j : ℕ) → i < count t → j < count t → entry m xs i ≡ entry m xs j → i ≡ j
  pub order : ByFirstReach (alphabet m) t
  pub inside : (i a : ℕ) → i < count t → a < alphabet m → next (alphabet m) t i a < count t
  pub moves : (i a : ℕ) → i < count t → a < alphabet m → m.step (entry m xs i) a ≡ entry m xs (next (alphabet m) t i a)
  pub values : (i : ℕ) → i < count t → get_or t.values i 0 ≡ m.value (entry m xs i)

-- the cells name states
abbrev pub Inside : ℕ → TableModel → Type 0
Inside n t = (i a : ℕ) → i < count t → a < n → next n t i a < count t

pub walk_inside : (n : ℕ) (t : TableModel) → Inside n t → (i : ℕ) (w : List ℕ) → i < count t → Over n w → run (next n t) i w < count t
walk_inside n t inside i [] h o = h
walk_inside n t inside i (a ∷ w) h o = walk_inside n t inside (next n t i a) w (inside i a h o.0) o.1

module _ {S : Type 0} {m : MachineModel S} {t : TableModel} {xs : List S} (b : Walked m t xs) where
  -- the machine follows the table
  pub follows : (i : ℕ) (w : List ℕ) → i < count t → Over (alphabet m) w → run m.step (entry m xs i) w ≡ entry m xs (run (next (alphabet m) t) i w)
  follows i [] h o = refl
  follows i (a ∷ w) h o = ap (λ s. run m.step s w) (b.moves i a h o.0) ∙ follows (next (alphabet m) t i a) w (b.inside i a h o.0) o.1

  pub leads : (w : List ℕ) → Over (alphabet m) w → ends m w ≡ entry m xs (run (next (alphabet m) t) 0 w)
  leads w o = ap (λ s. run m.step s w) (sym b.first) ∙ follows 0 w b.some o

  pub lands : (w : List ℕ) → Over (alphabet m) w → run (next (alphabet m) t) 0 w < count t
  lands w o = walk_inside (alphabet m) t b.inside 0 w b.some o
