-- What it is to press a draft or a machine, and what follows from it, told of tables by their values and cells.
use Rattle.std.specs.Prelude.{◌≡◌, ℕ, ◌<◌, ◌≤◌, ◌↔◌, List, ◌++◌, length, get_or, None, slice_index_or}
use Rattle.kinds.specs.Kinds.{KindModel}
use Rattle.automata.specs.Signs.{sign_fault}
use Rattle.automata.specs.Drafts.{DraftModel, size, letters}
use Rattle.drafts.specs.Words.{Over, reach, value, value_from}
use Rattle.machines.specs.Models.{MachineModel, meaning, Spread}
use Rattle.machines.specs.Tables.{TableModel, count, Admitted, table_machine_model}
use Rattle.machines.specs.Built.{Built}
use Rattle.views.specs.declared.colouring.Colouring.{Colouring}
use Rattle.views.specs.declared.states.Reached.{Reached}
use Rattle.views.specs.Colourings.{plain}
use Rattle.views.specs.DraftViews.{forward_draft_model, backward_draft_model}
use Rattle.views.specs.TableViews.{backward_table_model}
use Rattle.pressing.specs.Sources.{Made, Source, draft, machine, kind_of, signs_of, acceptable_of, WordOf, value_of}

-- A table of at most 128 states is built from m, and t from that table read backward.
pub record Twice {S : Type 0} (m : MachineModel S) (t : TableModel) : Type 0 where
  pub back : TableModel
  pub columns : List S
  pub rows : List Colouring
  pub few : count back ≤ 128
  pub built : Built m back columns
  pub again : Built (backward_table_model m.kind m.signs m.acceptable back) t rows

-- A draft is read backward twice; a machine is first built, and its table read backward twice.
abbrev pub Pressed : {K : KindModel} {S : Type 0} → Source K S → TableModel → Type 0
Pressed {K} (draft d ok made) t = Twice (backward_draft_model K d ok) t
Pressed {S = S} (machine m) t = (a : TableModel) × (xs : List S) × (count a ≤ 128) × Built m a xs × Twice (backward_table_model m.kind m.signs m.acceptable a) t

-- words that no ending tells apart reach the same states
abbrev pub Residual : KindModel → DraftModel → Type 0
Residual K d =
    (u v : List ℕ) → Over (letters d) u → Over (letters d) v → ((w : List ℕ) → Over (letters d) w → value K d (u ++ w) ≡ value K d (v ++ w)) → reach d u ≡ reach d v

-- what q says of a word depends only on what the draft says of the words that end in it
abbrev pub Atomic : KindModel → DraftModel → ℕ → Type 0
Atomic K d q =
    (u v : List ℕ) → Over (letters d) u → Over (letters d) v → ((x : List ℕ) → Over (letters d) x → value K d (x ++ u) ≡ value K d (x ++ v))
    → value_from K d q u ≡ value_from K d q v

-- the code of p in the colouring i
abbrev pub code_of_entry : KindModel → List Colouring → ℕ → ℕ → ℕ
code_of_entry K cs i p = slice_index_or (get_or cs i (plain 0)).codes p K.none

-- colourings of the backward table that no row tells apart agree at q
abbrev pub Agreed : KindModel → TableModel → List Colouring → List Colouring → ℕ → Type 0
Agreed K b columns rows q =
    (i j : ℕ) → i < count b → j < count b → ((r : ℕ) → r < length rows → code_of_entry K rows r i ≡ code_of_entry K rows r j) → code_of_entry K columns i q ≡ code_of_entry K columns j q

-- At the kind K, for every two sources, whatever the states of their machines are:
pub record PressLaws (K : KindModel) (S R : Type 0) : Type 0 where
  -- the pressed table says of each word what the source says
  pub admitted : (s : Source K S) (t : TableModel) → Pressed s t → Admitted (kind_of s) t
  pub reads : (s : Source K S) (t : TableModel) → Pressed s t → (h : Admitted (kind_of s) t)
      → (w : List ℕ) → WordOf s w → meaning (table_machine_model (kind_of s) (signs_of s) (acceptable_of s) t h) w ≡ value_of s w
  -- each machine that says the same reaches as many states at least
  pub fewest : (s : Source K S) (t : TableModel) → Pressed s t → (m : MachineModel R) → m.signs ≡ signs_of s
      → ((w : List ℕ) → WordOf s w → meaning m w ≡ value_of s w) → Spread m (count t)
  -- two sources are pressed to one table exactly if they say the same
  pub same : (s : Source K S) (r : Source K R) (t u : TableModel) → Pressed s t → Pressed r u → signs_of s ≡ signs_of r
      → (t ≡ u) ↔ ((w : List ℕ) → WordOf s w → value_of s w ≡ value_of r w)
  -- the table of the sets that words reach has as few states exactly if words that no ending tells apart reach the same states
  pub once : (d : DraftModel) (ok : sign_fault d.signs ≡ None) → Made K d → (o t : TableModel) (sets : List Reached)
      → Built (forward_draft_model K d ok) o sets → Twice (backward_draft_model K d ok) t → (count o ≡ count t) ↔ Residual K d
  -- which states are atomic
  pub atomic : (d : DraftModel) (ok : sign_fault d.signs ≡ None) → Made K d → (t : TableModel) (p : Twice (backward_draft_model K d ok) t) (q : ℕ)
      → q < size d → Atomic K d q ↔ Agreed K p.back p.columns p.rows q
