-- The law of the press: the pressed table is the smallest, there is one for each meaning, and when one build forward is as good.
use Rattle.std.specs.Prelude.{◌≡◌, ℕ, ◌<◌, ◌↔◌, List, None}
use Rattle.kinds.specs.Kinds.{KindModel}
use Rattle.automata.specs.Signs.{sign_fault}
use Rattle.automata.specs.Sets.{no_states}
use Rattle.automata.specs.Drafts.{DraftModel, size}
use Rattle.machines.specs.Models.{MachineModel, meaning, Spread}
use Rattle.tables.specs.declared.grid.Grid.{Grid}
use Rattle.views.specs.declared.colouring.Colouring.{Colouring}
use Rattle.views.specs.declared.states.Reached.{Reached}
use Rattle.views.specs.DraftViews.{forward_draft_model}
use Rattle.views.specs.Those.{reached_set}
use Rattle.views.specs.TableSays.{table_says}
use Rattle.pressing.specs.Pressed.{Left, Holds, DraftPressed, MachinePressed}
use Rattle.pressing.specs.Press.{Residual, Atomic, code_of_entry}
use Rattle.pressing.specs.Sources.{Made, Source, draft, machine, kind_of, signs_of, WordOf, value_of}

-- the source is pressed, and t is the last table
abbrev pub PressedInto : {K : KindModel} {S : Type 0} → Source K S → Grid → Type 0
PressedInto {K} (draft d ok made) t = (back last : Left Colouring) × DraftPressed K d ok back last × (last.table ≡ t)
PressedInto {S = S} (machine m) t = (blank : S) × (first : Left S) × (back last : Left Colouring) × MachinePressed m blank first back last × (last.table ≡ t)

-- the sets of states that words reach are built, in one way only
abbrev pub Once : (K : KindModel) (d : DraftModel) → sign_fault d.signs ≡ None → Left Reached → Type 0
Once K d ok o = Holds (forward_draft_model K d ok) (reached_set no_states) o

-- backward states with equal columns of the chart agree at q
abbrev pub AgreedLeft : KindModel → Left Colouring → Left Colouring → ℕ → Type 0
AgreedLeft K back last q =
    (i j : ℕ) → i < back.len → j < back.len → ((r : ℕ) → r < last.len → code_of_entry K last.entries r i ≡ code_of_entry K last.entries r j)
    → code_of_entry K back.entries i q ≡ code_of_entry K back.entries j q

-- At the kind K, for every two sources, whatever the states of their machines are:
pub record LawOfPress (K : KindModel) (S R : Type 0) : Type 0 where
  -- the pressed table says of each word what the source says
  pub reads : (s : Source K S) (t : Grid) → PressedInto s t → (w : List ℕ) → WordOf s w → table_says (kind_of s) t w ≡ value_of s w
  -- smallest: each machine that says the same reaches as many states at least
  pub fewest : (s : Source K S) (t : Grid) → PressedInto s t → (m : MachineModel R) → m.signs ≡ signs_of s
      → ((w : List ℕ) → WordOf s w → meaning m w ≡ value_of s w) → Spread m t.count
  -- one table for one meaning: two sources are pressed to equal tables exactly if they say the same of each word
  pub same : (s : Source K S) (r : Source K R) (t u : Grid) → PressedInto s t → PressedInto r u → signs_of s ≡ signs_of r
      → (t ≡ u) ↔ ((w : List ℕ) → WordOf s w → value_of s w ≡ value_of r w)
  -- one way is enough, that is, gives as few states, exactly if words that no ending tells apart reach the same states
  pub once : (d : DraftModel) (ok : sign_fault d.signs ≡ None) → Made K d → (o : Left Reached) (back last : Left Colouring)
      → Once K d ok o → DraftPressed K d ok back last → (o.table.count ≡ last.table.count) ↔ Residual K d
  -- a state is atomic exactly if backward states with equal columns agree at it
  pub atomic : (d : DraftModel) (ok : sign_fault d.signs ≡ None) → Made K d → (back last : Left Colouring) → DraftPressed K d ok back last
      → (q : ℕ) → q < size d → Atomic K d q ↔ AgreedLeft K back last q
