-- What may be pressed: a draft that calls make, or a machine; and what it says of words.
use Rattle.std.specs.Prelude.{◌≡◌, ℕ, List, length, None}
use Rattle.kinds.specs.Kinds.{KindModel}
use Rattle.automata.specs.Signs.{sign_fault}
use Rattle.automata.specs.Drafts.{DraftModel, fresh}
use Rattle.drafts.specs.declared.calls.Call.{Call}
use Rattle.drafts.specs.Calls.{after_all}
use Rattle.drafts.specs.Words.{Over, value}
use Rattle.machines.specs.Models.{MachineModel, meaning}

-- some list of calls, refused or not, makes d from the fresh draft of its signs
abbrev pub Made : KindModel → DraftModel → Type 0
Made K d = (cs : List Call) × (after_all K (fresh d.signs) cs ≡ d)

-- A draft that calls make over acceptable signs, or a machine.
pub data Source (K : KindModel) (S : Type 0) : Type 0 where
  draft : (d : DraftModel) → sign_fault d.signs ≡ None → Made K d → Source K S
  machine : MachineModel S → Source K S

-- the kind: that of the machine, and K for a draft
abbrev pub kind_of : {K : KindModel} {S : Type 0} → Source K S → KindModel
kind_of {K} (draft d ok made) = K
kind_of (machine m) = m.kind

abbrev pub signs_of : {K : KindModel} {S : Type 0} → Source K S → List ℕ
signs_of (draft d ok made) = d.signs
signs_of (machine m) = m.signs

abbrev pub acceptable_of : {K : KindModel} {S : Type 0} → (s : Source K S) → sign_fault (signs_of s) ≡ None
acceptable_of (draft d ok made) = ok
acceptable_of (machine m) = m.acceptable

-- a word over the letters of the source
abbrev pub WordOf : {K : KindModel} {S : Type 0} → Source K S → List ℕ → Type 0
WordOf s w = Over (length (signs_of s)) w

-- what the source says of a word
abbrev pub value_of : {K : KindModel} {S : Type 0} → Source K S → List ℕ → ℕ
value_of {K} (draft d ok made) w = value K d w
value_of (machine m) w = meaning m w
