-- Texts that spell words, and what a table says of a text and of its front parts.
use Rattle.std.specs.Prelude.{◌≡◌, ℕ, ◌<◌, ◌≤◌, cond, List, map, length, take, Some, None, Ok, Err, Option, Result, ◌==◌, ◌≢◌, slice_index}
use Rattle.std.specs.Borrow.{Bor}
use Rattle.kinds.specs.Kinds.{KindModel}
use Rattle.automata.specs.Shown.{sign_bytes}
use Rattle.drafts.specs.Words.{Over}
use Rattle.tables.specs.declared.grid.Grid.{Grid}
use Rattle.views.specs.TableSays.{table_says}
use Rattle.lookup.specs.declared.faults.ValueFault.{ValueFault}
use Rattle.lookup.specs.declared.faults.ValueFault.TheVariants.{NoSign}
use Rattle.lookup.specs.declared.faults.LongestFault.{LongestFault}
use Rattle.lookup.specs.declared.faults.LongestFault.TheVariants.{NoPart}

abbrev pub value_fault_number : ValueFault → ℕ
value_fault_number (NoSign place) = 12

abbrev pub longest_fault_number : LongestFault → ℕ
longest_fault_number NoPart = 13

-- the text has the signs of the letters of w
abbrev pub Spells : List ℕ → List ℕ → List ℕ → Type 0
Spells signs text w = Over (length signs) w × (text ≡ map (λ a. slice_index signs a) w)

-- the byte is no sign
abbrev pub NoLetter : List ℕ → ℕ → Type 0
NoLetter signs byte = (a : ℕ) → a < length signs → slice_index signs a ≢ byte

abbrev pub LetterOf : List ℕ → ℕ → Option ℕ → Type 0
LetterOf signs byte (Some a) = (a < length signs) × (slice_index signs a ≡ byte)
LetterOf signs byte None = NoLetter signs byte

-- the value of the word that the text spells, or the place of the first byte that is no sign
abbrev pub Valued : KindModel → Grid → List ℕ → Result ℕ ValueFault → Type 0
Valued K t text (Ok v) = (w : List ℕ) × Spells (sign_bytes t.signs) text w × (v ≡ table_says K t w)
Valued K t text (Err (NoSign k)) =
    (k < length text) × NoLetter (sign_bytes t.signs) (slice_index text k) × ((w : List ℕ) × Spells (sign_bytes t.signs) (take k text) w)

-- no front part that is longer than k and at most m long spells a word with a value other than none
abbrev pub NoneFrom : KindModel → Grid → List ℕ → ℕ → ℕ → Type 0
NoneFrom K t text k m = (j : ℕ) → k ≤ j → j ≤ m → (w : List ℕ) → Spells (sign_bytes t.signs) (take j text) w → table_says K t w ≡ K.none

-- the front part of this length spells a word with the value v, which is not none, and no longer one up to m has such a value
pub record Ends (K : KindModel) (t : Grid) (text : List ℕ) (m end v : ℕ) : Type 0 where
  pub within : end ≤ m
  pub spelled : (w : List ℕ) × Spells (sign_bytes t.signs) (take end text) w × (v ≡ table_says K t w)
  pub some : v ≡ K.none → ⊥
  pub longer : (j : ℕ) → end < j → j ≤ m → (w : List ℕ) → Spells (sign_bytes t.signs) (take j text) w → table_says K t w ≡ K.none

-- the longest front part of at most m bytes, by its end and its value
abbrev pub BestTo : KindModel → Grid → List ℕ → ℕ → Option (ℕ × ℕ) → Type 0
BestTo K t text m (Some b) = Ends K t text m b.0 b.1
BestTo K t text m None = NoneFrom K t text 0 m

abbrev pub Best : KindModel → Grid → List ℕ → Option (ℕ × ℕ) → Type 0
Best K t text r = BestTo K t text (length text) r

-- the later end where its value is not none
abbrev pub kept : ℕ → Option (ℕ × ℕ) → ℕ → ℕ → Option (ℕ × ℕ)
kept none best end v = cond (v == none) best (Some (end, v))

-- the longest front part, as a part of the text itself, and its value
abbrev pub Longest : KindModel → Grid → Bor (List ℕ) → Result (Bor (List ℕ) × ℕ) LongestFault → Type 0
Longest K t text (Ok p) = (p.0.ref_ptr ≡ text.ref_ptr) × ((end : ℕ) × (p.0.now ≡ take end text.now) × Ends K t text.now (length text.now) end p.1)
Longest K t text (Err e) = NoneFrom K t text.now 0 (length text.now)
