-- Deterministic machines whose states have values, where words lead in them, and what they say of words.
use Rattle.std.specs.Prelude.{◌≡◌, ℕ, ◌<◌, ◌≤◌, true, ◌≢◌, List, length, None, slice_index_or}
use Rattle.kinds.specs.Kinds.{KindModel}
use Rattle.automata.specs.Signs.{sign_fault}
use Rattle.drafts.specs.Words.{Over, run}

-- A machine over a sign list. A letter that has no sign changes nothing, and each value is admitted.
pub record MachineModel (S : Type 0) : Type 0 where
  pub kind : KindModel
  pub signs : List ℕ
  pub start : S
  pub step : S → ℕ → S
  pub value : S → ℕ
  pub acceptable : sign_fault signs ≡ None
  pub idle : (s : S) (a : ℕ) → length signs ≤ a → step s a ≡ s
  pub admitted : (s : S) → kind.admits (value s) ≡ true

-- the number of letters
abbrev pub alphabet : {S : Type 0} → MachineModel S → ℕ
alphabet m = length m.signs

-- where a word leads from the start
abbrev pub ends : {S : Type 0} → MachineModel S → List ℕ → S
ends m w = run m.step m.start w

-- what a machine says of a word
abbrev pub meaning : {S : Type 0} → MachineModel S → List ℕ → ℕ
meaning m w = m.value (ends m w)

-- some word leads to s
abbrev pub Reaches : {S : Type 0} → MachineModel S → S → Type 0
Reaches m s = (w : List ℕ) × Over (alphabet m) w × (ends m w ≡ s)

-- each state that words reach stands in ys
abbrev pub Covers : {S : Type 0} → MachineModel S → List S → Type 0
Covers m ys = (w : List ℕ) → Over (alphabet m) w → (k : ℕ) × (k < length ys) × (slice_index_or ys k m.start ≡ ends m w)

-- words that lead to c states, pairwise different
pub record Spread {S : Type 0} (m : MachineModel S) (c : ℕ) : Type 0 where
  pub word : ℕ → List ℕ
  pub over : (i : ℕ) → i < c → Over (alphabet m) (word i)
  pub differ : (i j : ℕ) → i < j → j < c → ends m (word i) ≢ ends m (word j)
