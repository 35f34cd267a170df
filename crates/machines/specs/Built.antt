-- What it is for a table and a list of states to be built from a machine: the states that words reach, numbered by first reach.
use Rattle.std.specs.Prelude.{◌≡◌, ℕ, ◌*◌, ◌<◌, ◌⊎◌, List, [], ◌∷◌, length, slice_index, slice_index_or}
use Rattle.drafts.specs.Words.{Over}
use Rattle.machines.specs.Models.{MachineModel, alphabet, ends}
use Rattle.machines.specs.Tables.{TableModel, count, next}

-- of two words of one length: the first letter in which they differ is smaller in u
abbrev pub Lex : List ℕ → List ℕ → Type 0
Lex [] v = ⊥
Lex (a ∷ u) [] = ⊥
Lex (a ∷ u) (b ∷ v) = (a < b) ⊎ ((a ≡ b) × Lex u v)

-- Shorter words come sooner, words of one length in letter order.
abbrev pub Sooner : List ℕ → List ℕ → Type 0
Sooner u v = (length u < length v) ⊎ ((length u ≡ length v) × Lex u v)

-- w is the first word that leads to s
abbrev pub FirstWord : {S : Type 0} → MachineModel S → S → List ℕ → Type 0
FirstWord m s w = Over (alphabet m) w × (ends m w ≡ s) × ((v : List ℕ) → Over (alphabet m) v → ends m v ≡ s → (w ≡ v) ⊎ Sooner w v)

-- entry i of a list of states
abbrev pub entry : {S : Type 0} → MachineModel S → List S → ℕ → S
entry m xs i = slice_index_or xs i m.start

-- xs has the states that words reach in the order of their first words, and t their values and steps.
pub record Built {S : Type 0} (m : MachineModel S) (t : TableModel) (xs : List S) : Type 0 where
  pub states : length xs ≡ count t
  pub sized : length t.cells ≡ count t * alphabet m
  pub some : 0 < count t
  -- exactly the states that words reach, each once
  pub reached : (i : ℕ) → i < count t → (w : List ℕ) × FirstWord m (entry m xs i) w
  pub all : (w : List ℕ) → Over (alphabet m) w → (i : ℕ) × (i < count t) × (entry m xs i ≡ ends m w)
  pub apart : (i j : ℕ) → i < count t → j < count t → entry m xs i ≡ entry m xs j → i ≡ j
  -- numbered by first reach
  pub order : (i j : ℕ) → i < j → j < count t → (u v : List ℕ) → FirstWord m (entry m xs i) u → FirstWord m (entry m xs j) v → Sooner u v
  -- the rows and the values
  pub inside : (i a : ℕ) → i < count t → a < alphabet m → next (alphabet m) t i a < count t
  pub moves : (i a : ℕ) → i < count t → a < alphabet m → m.step (entry m xs i) a ≡ entry m xs (next (alphabet m) t i a)
  pub values : (i : ℕ) → i < count t → slice_index t.values i ≡ m.value (entry m xs i)
