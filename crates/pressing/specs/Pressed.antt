-- What a press leaves: the tables and the rolls of its builds, or blanks and the reason of the refusal.
use Rattle.std.specs.Prelude.{◌≡◌, ℕ, suc, min, List, length, None, Ok, Err, Result}
use Rattle.kinds.specs.Kinds.{KindModel}
use Rattle.automata.specs.Signs.{sign_fault}
use Rattle.automata.specs.Drafts.{DraftModel, letters}
use Rattle.automata.specs.Shown.{sign_bytes}
use Rattle.drafts.specs.Words.{Over, value}
use Rattle.machines.specs.Models.{MachineModel, alphabet, meaning, Spread}
use Rattle.rolls.specs.declared.roll.Roll.{Roll}
use Rattle.tables.specs.declared.grid.Grid.{Grid}
use Rattle.tables.specs.Shown.{shown}
use Rattle.tables.specs.declared.table.Table.{Table}
use Rattle.tables.specs.Builds.{Accepted, Wiped}
use Rattle.views.specs.declared.colouring.Colouring.{Colouring}
use Rattle.views.specs.Accepted.{accepted}
use Rattle.views.specs.Colourings.{plain}
use Rattle.views.specs.DraftViews.{backward_draft_model}
use Rattle.views.specs.TableViews.{backward_table_model}
use Rattle.views.specs.TableSays.{table_says}
use Rattle.pressing.specs.declared.faults.PressFault.{PressFault}
use Rattle.pressing.specs.declared.faults.PressFault.TheVariants.{First, Backward, Last}

abbrev pub press_fault_number : PressFault → ℕ
press_fault_number First = 9
press_fault_number Backward = 10
press_fault_number Last = 11

-- What a build leaves: a table, the entries of a roll, and how many of them are listed.
pub record Left (S : Type 0) : Type 0 where
  pub table : Grid
  pub entries : List S
  pub len : ℕ

abbrev pub left_of : {K S : Type 0} → Table K → Roll S → Left S
left_of t r = record { table = t.grid; entries = r.entries.now; len = r.len }

-- the table and the states of m are left; d is blank
abbrev pub Holds : {S : Type 0} → MachineModel S → S → Left S → Type 0
Holds m d x = Accepted m d x.table x.entries x.len

-- a blank table with these signs and an empty and blank roll are left
abbrev pub Empty : {S : Type 0} → List ℕ → ℕ → S → Left S → Type 0
Empty signs none d x = Wiped signs none d x.table x.entries x.len

-- m reaches more states than 128, or than there is room for
abbrev pub TooMany : {S : Type 0} → MachineModel S → ℕ → Type 0
TooMany m room = Spread m (suc (min 128 room))

-- a table as the machine that reads words backward
abbrev pub reading : KindModel → Grid → MachineModel Colouring
reading K t = backward_table_model K (sign_bytes t.signs) (accepted t.signs) (shown t)

-- m is built, and its table, read backward, is built again
pub record TwiceLeft {S : Type 0} (m : MachineModel S) (d : S) (back : Left S) (last : Left Colouring) : Type 0 where
  pub built : Holds m d back
  pub again : Holds (reading m.kind back.table) (plain 0) last

-- the first of these builds that has no room; the one before it was made
abbrev pub TwiceFails : {S : Type 0} → MachineModel S → S → ℕ → ℕ → PressFault → Type 0
TwiceFails m d room room' First = ⊥
TwiceFails m d room room' Backward = TooMany m room
TwiceFails {S} m d room room' Last = (back : Left S) × Holds m d back × (length back.entries ≡ room) × TooMany (reading m.kind back.table) room'

abbrev pub TwiceEnded : {S U : Type 0} → MachineModel S → S → Left S → Left Colouring → Result U PressFault → Type 0
TwiceEnded m d back last (Ok u) = TwiceLeft m d back last
TwiceEnded m d back last (Err e) =
    TwiceFails m d (length back.entries) (length last.entries) e × Empty m.signs m.kind.none d back × Empty m.signs m.kind.none (plain 0) last

-- A draft is pressed: it is built as it is read backward, and the table of that is built as it is read backward.
abbrev pub DraftPressed : (K : KindModel) (d : DraftModel) → sign_fault d.signs ≡ None → Left Colouring → Left Colouring → Type 0
DraftPressed K d ok back last = TwiceLeft (backward_draft_model K d ok) (plain 0) back last

abbrev pub DraftEnded : {U : Type 0} → (K : KindModel) (d : DraftModel) → sign_fault d.signs ≡ None → Left Colouring → Left Colouring → Result U PressFault → Type 0
DraftEnded K d ok back last r = TwiceEnded (backward_draft_model K d ok) (plain 0) back last r

-- A machine is pressed: it is built, and so is its table as it is read backward, twice.
pub record MachinePressed {S : Type 0} (m : MachineModel S) (d : S) (first : Left S) (back last : Left Colouring) : Type 0 where
  pub built : Holds m d first
  pub twice : TwiceLeft (reading m.kind first.table) (plain 0) back last

abbrev pub MachineFails : {S : Type 0} → MachineModel S → S → ℕ → ℕ → ℕ → PressFault → Type 0
MachineFails m d room room' room'' First = TooMany m room
MachineFails {S} m d room room' room'' Backward =
    (first : Left S) × Holds m d first × (length first.entries ≡ room) × TwiceFails (reading m.kind first.table) (plain 0) room' room'' Backward
MachineFails {S} m d room room' room'' Last =
    (first : Left S) × Holds m d first × (length first.entries ≡ room) × TwiceFails (reading m.kind first.table) (plain 0) room' room'' Last

abbrev pub MachineEnded : {S U : Type 0} → MachineModel S → S → Left S → Left Colouring → Left Colouring → Result U PressFault → Type 0
MachineEnded m d first back last (Ok u) = MachinePressed m d first back last
MachineEnded m d first back last (Err e) =
    MachineFails m d (length first.entries) (length back.entries) (length last.entries) e
    × Empty m.signs m.kind.none d first × Empty m.signs m.kind.none (plain 0) back × Empty m.signs m.kind.none (plain 0) last

-- where the call is accepted, the table says of each word over n letters what f says
abbrev pub Says : {U E : Type 0} → KindModel → Grid → ℕ → (List ℕ → ℕ) → Result U E → Type 0
Says K t n f (Ok u) = (w : List ℕ) → Over n w → table_says K t w ≡ f w
Says K t n f (Err e) = Unit {0}

abbrev pub DraftSays : {U E : Type 0} → KindModel → DraftModel → Grid → Result U E → Type 0
DraftSays K d t r = Says K t (letters d) (value K d) r

abbrev pub MachineSays : {S U E : Type 0} → MachineModel S → Grid → Result U E → Type 0
MachineSays m t r = Says m.kind t (alphabet m) (meaning m) r
