-- What reading a text gives: the draft, or the first question whose answer is no.
use Rattle.std.specs.Prelude.{ℕ, suc, ◌-◌, Bool, cond, ◌&&◌, List, [], ◌∷◌, length, take, drop, Some, None, Ok, Err, Option, Result, ◌==◌, nat_le, nat_lt, slice_index, slice_index_or}
use Rattle.std.specs.Str.Parse.{digits_value}
use Rattle.kinds.specs.Kinds.{KindModel}
use Rattle.fields.specs.declared.numbers.NumberFault.{NumberFault}
use Rattle.fields.specs.Pieces.{pieces}
use Rattle.fields.specs.Numbers.{number_of}
use Rattle.drafts.specs.declared.calls.Call.{Call}
use Rattle.drafts.specs.declared.calls.Call.TheVariants.{Grow, Enter}
use Rattle.automata.specs.Signs.{sign_fault}
use Rattle.automata.specs.Drafts.{DraftModel, fresh}
use Rattle.drafts.specs.Calls.{link, refusal, effect, unless}
use Rattle.texts.specs.declared.letters.KindLetter.{KindLetter}
use Rattle.texts.specs.declared.letters.KindLetter.TheVariants.{Y, R, M}
use Rattle.texts.specs.declared.faults.FieldFault.{FieldFault}
use Rattle.texts.specs.declared.faults.FieldFault.TheVariants.{Number, NotListed}
use Rattle.texts.specs.declared.faults.LineFault.{LineFault}
use Rattle.texts.specs.declared.faults.LineFault.TheVariants as line
use Rattle.texts.specs.declared.faults.TextFault.{TextFault}
use Rattle.texts.specs.declared.faults.TextFault.TheVariants.{TooLong, NoEnd, Line}
use Rattle.texts.specs.Grammar.{kind_of}

-- What a field holds.
pub data Form : Type 0 where
  number : Form
  one_sign : Form
  kind_letter : Form
  any_signs : Form

-- the fields that follow a record letter: D on the first line, S, L and E later
abbrev pub head_forms : ℕ → Option (List Form)
head_forms b = cond (b == 68) (Some (kind_letter ∷ any_signs ∷ [])) None

abbrev pub call_forms : ℕ → Option (List Form)
call_forms b =
    cond (b == 83) (Some (number ∷ []))
    (cond (b == 69) (Some (number ∷ []))
    (cond (b == 76) (Some (number ∷ one_sign ∷ number ∷ [])) None))

-- the place of the first sign that is b, or the number of signs
abbrev pub place_of : ℕ → List ℕ → ℕ
place_of b [] = 0
place_of b (x ∷ xs) = cond (x == b) 0 (suc (place_of b xs))

abbrev pub letter_in : List ℕ → List ℕ → ℕ
letter_in signs f = place_of (slice_index f 0) signs

-- the field is one listed sign
abbrev pub listed : List ℕ → List ℕ → Bool
listed signs f = length f == 1 && nat_lt (letter_in signs f) (length signs)

abbrev pub number_in : List ℕ → ℕ
number_in f = digits_value 10 f

-- the kind letter that a byte is
abbrev pub kind_byte : ℕ → Option KindLetter
kind_byte b = cond (b == 89) (Some Y) (cond (b == 82) (Some R) (cond (b == 77) (Some M) None))

abbrev pub kind_in : List ℕ → Option KindLetter
kind_in f = cond (length f == 1) (kind_byte (slice_index f 0)) None

abbrev pub fault_in : {T E : Type 0} → Result T E → Option E
fault_in (Ok x) = None
fault_in (Err e) = Some e

abbrev pub as_field : Option NumberFault → Option FieldFault
as_field None = None
as_field (Some e) = Some (Number e)

abbrev pub unlisted : {A : Type 0} → Option A → Option FieldFault
unlisted None = Some NotListed
unlisted (Some x) = None

-- why a field does not have its form
abbrev pub field_fault : List ℕ → Form → List ℕ → Option FieldFault
field_fault signs number f = as_field (fault_in (number_of f))
field_fault signs one_sign f = cond (listed signs f) None (Some NotListed)
field_fault signs kind_letter f = unlisted (kind_in f)
field_fault signs any_signs f = None

abbrev pub or_else : {E : Type 0} → Option E → Option E → Option E
or_else None y = y
or_else (Some e) y = Some e

abbrev pub at_field : ℕ → Option FieldFault → Option LineFault
at_field n None = None
at_field n (Some e) = Some (line.Field n e)

-- the first field, from the left, that does not have its form; n is the first field's number
abbrev pub first_fault : List ℕ → ℕ → List Form → List (List ℕ) → Option LineFault
first_fault signs n [] fs = None
first_fault signs n (form ∷ forms) [] = None
first_fault signs n (form ∷ forms) (f ∷ fs) = or_else (at_field n (field_fault signs form f)) (first_fault signs (suc n) forms fs)

-- the line begins with a byte and a tab
abbrev pub tagged : List ℕ → Bool
tagged l = nat_lt 1 (length l) && slice_index l 1 == 9

abbrev pub tag_of : List ℕ → ℕ
tag_of l = slice_index l 0

-- the fields after the record letter
abbrev pub fields_in : List ℕ → List (List ℕ)
fields_in l = pieces 9 (drop 2 l)

abbrev pub shape_fault : List ℕ → Option (List Form) → List (List ℕ) → Option LineFault
shape_fault signs None fs = Some line.Record
shape_fault signs (Some forms) fs = cond (length fs == length forms) (first_fault signs 2 forms fs) (Some line.FieldCount)

-- record letter, number of fields, then each field
abbrev pub line_fault : List ℕ → (ℕ → Option (List Form)) → List ℕ → Option LineFault
line_fault signs forms_of l = shape_fault signs (cond (tagged l) (forms_of (tag_of l)) None) (fields_in l)

abbrev pub field : List ℕ → ℕ → List ℕ
field l k = slice_index_or (fields_in l) k []

-- the call that a line without a fault stands for
abbrev pub call_in : List ℕ → List ℕ → Call
call_in signs l =
    cond (tag_of l == 83) (Grow (number_in (field l 0)))
    (cond (tag_of l == 69) (Enter (number_in (field l 0)))
    (link (number_in (field l 0)) (letter_in signs (field l 1)) (number_in (field l 2))))

abbrev pub call_of_line : List ℕ → List ℕ → Result Call LineFault
call_of_line signs l = unless (line_fault signs call_forms l) (call_in signs l)

abbrev pub then : {T U E : Type 0} → Result T E → (T → Result U E) → Result U E
then (Ok x) f = f x
then (Err e) f = Err e

abbrev pub refused_by : {T E F : Type 0} → (E → F) → Option E → T → Result T F
refused_by f None x = Ok x
refused_by f (Some e) x = Err (f e)

-- one line more on a draft
abbrev pub draft_after_line : KindModel → DraftModel → List ℕ → Result DraftModel LineFault
draft_after_line K d l = then (call_of_line d.signs l) (λ c. refused_by line.Call (refusal K d c) (effect d c))

abbrev pub at_line : {T : Type 0} → ℕ → Result T LineFault → Result T TextFault
at_line n (Ok x) = Ok x
at_line n (Err e) = Err (Line n e)

-- each line in turn; n is the first line's number
abbrev pub draft_after_lines : KindModel → ℕ → DraftModel → List (List ℕ) → Result DraftModel TextFault
draft_after_lines K n d [] = Ok d
draft_after_lines K n d (l ∷ ls) = then (at_line n (draft_after_line K d l)) (λ d'. draft_after_lines K (suc n) d' ls)

-- the kind letter of a field without a fault
abbrev pub kind_or : Option KindLetter → KindLetter
kind_or None = Y
kind_or (Some k) = k

-- the first line: kind and signs
abbrev pub head_of_line : List ℕ → Result (KindLetter × List ℕ) LineFault
head_of_line l =
    then (unless (line_fault [] head_forms l) (kind_or (kind_in (field l 0)), field l 1))
    (λ h. refused_by line.Open (sign_fault h.1) h)

abbrev pub Drawn : Type 0
Drawn = KindLetter × DraftModel

abbrev pub as_drawn : KindLetter → Result DraftModel TextFault → Result Drawn TextFault
as_drawn k (Ok d) = Ok (k, d)
as_drawn k (Err e) = Err e

abbrev pub read_all : List (List ℕ) → Result Drawn TextFault
read_all [] = Err NoEnd
read_all (l ∷ ls) = then (at_line 1 (head_of_line l)) (λ h. as_drawn h.0 (draft_after_lines (kind_of h.0) 2 (fresh h.1) ls))

-- the lines of a text, which each end in a newline
abbrev pub lines_in : List ℕ → List (List ℕ)
lines_in text = take (length (pieces 10 text) - 1) (pieces 10 text)

-- there is a last byte, and it is a newline
abbrev pub line_ended : List ℕ → Bool
line_ended text = nat_lt 0 (length text) && slice_index text (length text - 1) == 10

abbrev pub read_text : List ℕ → Result Drawn TextFault
read_text text = cond (nat_le (length text) 32768) (cond (line_ended text) (read_all (lines_in text)) (Err NoEnd)) (Err TooLong)
