-- What is printed of a table, and of a text that is read as a draft and pressed.
use Rattle.std.specs.Prelude.{◌≡◌, ℕ, List, [], ◌∷◌, ◌++◌, length, Some, None, Ok, Err, decimal, Option, Result, slice_index}
use Rattle.fields.specs.Pieces.{ended}
use Rattle.kinds.specs.Kinds.{KindModel}
use Rattle.automata.specs.Signs.{sign_fault}
use Rattle.automata.specs.Shown.{sign_bytes}
use Rattle.automata.specs.Drafts.{DraftModel, size}
use Rattle.drafts.specs.Words.{tabulate}
use Rattle.machines.specs.Tables.{TableModel, count, next}
use Rattle.tables.specs.Shown.{shown}
use Rattle.views.specs.declared.colouring.Colouring.{Colouring}
use Rattle.views.specs.declared.states.Reached.{Reached}
use Rattle.views.specs.DraftViews.{forward_draft_model}
use Rattle.pressing.specs.declared.faults.PressFault.{PressFault}
use Rattle.pressing.specs.Pressed.{press_fault_number, Left, TooMany, DraftEnded}
use Rattle.pressing.specs.Sources.{Made}
use Rattle.pressing.specs.Law.{Once}
use Rattle.pressing.specs.Verdicts.{FirstTold, FirstNotAtomic}
use Rattle.texts.specs.declared.letters.KindLetter.{KindLetter}
use Rattle.texts.specs.declared.faults.TextFault.{TextFault}
use Rattle.texts.specs.Faults.{told, refusal_of}
use Rattle.texts.specs.Grammar.{letter_byte, kind_of, line_of}
use Rattle.texts.specs.Reading.{Drawn, read_text}
use Rattle.texts.specs.Writing.{ended_line, refusal_line}

-- the first line: T, the kind letter, the signs and the number of states
abbrev pub head_fields : KindLetter → List ℕ → TableModel → List (List ℕ)
head_fields k signs t = (84 ∷ []) ∷ (letter_byte k ∷ []) ∷ signs ∷ decimal (count t) ∷ []

-- the line of a state: its number, its value, and its next states by letter
abbrev pub row_fields : ℕ → TableModel → ℕ → List (List ℕ)
row_fields n t i = decimal i ∷ decimal (slice_index t.values i) ∷ tabulate n (λ a. decimal (next n t i a))

abbrev pub text_of_table : KindLetter → List ℕ → TableModel → List ℕ
text_of_table k signs t = ended 10 (line_of (head_fields k signs t) ∷ tabulate (count t) (λ i. line_of (row_fields (length signs) t i)))

-- a number, or - where there is none
abbrev pub option_field : Option ℕ → List ℕ
option_field None = 45 ∷ []
option_field (Some n) = decimal n

-- A where every state is atomic, and N where one is not
abbrev pub byte_of_verdict : Option ℕ → ℕ
byte_of_verdict None = 65
byte_of_verdict (Some q) = 78

-- the last line: V, the number of backward states, A or N, the first state that is not atomic, the number of states of the one-way build
abbrev pub verdict_fields : ℕ → Option ℕ → Option ℕ → List (List ℕ)
verdict_fields backs told onces = (86 ∷ []) ∷ decimal backs ∷ (byte_of_verdict told ∷ []) ∷ option_field told ∷ option_field onces ∷ []

abbrev pub report_text : KindLetter → List ℕ → TableModel → ℕ → Option ℕ → Option ℕ → List ℕ
report_text k signs t backs told onces = text_of_table k signs t ++ ended_line (verdict_fields backs told onces)

-- the number of states of the one-way build, where a roll of this many entries has room for it
abbrev pub OnceCount : (K : KindModel) (d : DraftModel) → sign_fault d.signs ≡ None → ℕ → Option ℕ → Type 0
OnceCount K d ok room (Some n) = (o : Left Reached) × Once K d ok o × (length o.entries ≡ room) × (n ≡ o.table.count)
OnceCount K d ok room None = TooMany (forward_draft_model K d ok) room

-- out is what is printed of a press that is accepted
pub record TablePrints (K : KindModel) (k : KindLetter) (d : DraftModel) (ok : sign_fault d.signs ≡ None) (back last : Left Colouring) (room : ℕ) (out : List ℕ) : Type 0 where
  pub told : Option ℕ
  pub first : FirstTold K back.entries back.len last.entries last.len (size d) told
  -- the first state that is not atomic, in a draft that calls make
  pub means : Made K d → FirstNotAtomic K d told
  pub onces : Option ℕ
  pub once : OnceCount K d ok room onces
  pub prints : out ≡ report_text k (sign_bytes last.table.signs) (shown last.table) back.table.count told onces

-- the same of a press that is accepted or refused
abbrev pub AnswerPrints : {U : Type 0} → (K : KindModel) → KindLetter → (d : DraftModel) → sign_fault d.signs ≡ None → Left Colouring → Left Colouring → ℕ → Result U PressFault → List ℕ → Type 0
AnswerPrints K k d ok back last room (Ok u) out = TablePrints K k d ok back last room out
AnswerPrints K k d ok back last room (Err e) out = out ≡ refusal_line (told (press_fault_number e) 0 0 0)

-- out is what is printed of the draft d, pressed and built once with rolls of this many entries
pub record DraftPrints (K : KindModel) (k : KindLetter) (d : DraftModel) (room : ℕ) (out : List ℕ) : Type 0 where
  pub acceptable : sign_fault d.signs ≡ None
  pub back : Left Colouring
  pub last : Left Colouring
  pub columns : length back.entries ≡ room
  pub chart : length last.entries ≡ room
  pub answer : Result (Unit {0}) PressFault
  pub ended : DraftEnded K d acceptable back last answer
  pub prints : AnswerPrints K k d acceptable back last room answer out

abbrev pub ReadPrints : Result Drawn TextFault → List ℕ → Type 0
ReadPrints (Ok d) out = Made (kind_of d.0) d.1 × DraftPrints (kind_of d.0) d.0 d.1 128 out
ReadPrints (Err e) out = out ≡ refusal_line (refusal_of e)

-- out is what is printed of a text; rolls have 128 entries
abbrev pub Prints : List ℕ → List ℕ → Type 0
Prints text out = ReadPrints (read_text text) out
