-- Draft text as a grammar: a text is lines that each end in a newline, a line is fields parted by tabs,
-- and the first field is the record letter.
use Rattle.std.specs.Prelude.{ℕ, ◌<◌, List, [], ◌∷◌, map, length, decimal, slice_index}
use Rattle.kinds.specs.Kinds.{KindModel}
use Rattle.kinds.specs.Delivered.{y_model, r_model, m_model}
use Rattle.fields.specs.Pieces.{join_with, ended}
use Rattle.drafts.specs.declared.calls.Call.{Call}
use Rattle.drafts.specs.declared.calls.Call.TheVariants.{Grow, Link, Unlink, Enter, Leave, Rate}
use Rattle.automata.specs.Drafts.{DraftModel}
use Rattle.drafts.specs.Canonical.{redrawn}
use Rattle.texts.specs.declared.letters.KindLetter.{KindLetter}
use Rattle.texts.specs.declared.letters.KindLetter.TheVariants.{Y, R, M}

-- the bytes Y, R and M
abbrev pub letter_byte : KindLetter → ℕ
letter_byte Y = 89
letter_byte R = 82
letter_byte M = 77

abbrev pub kind_of : KindLetter → KindModel
kind_of Y = y_model
kind_of R = r_model
kind_of M = m_model

-- a line by its fields
abbrev pub line_of : List (List ℕ) → List ℕ
line_of fs = join_with 9 fs

-- the first line: D, the kind letter and the signs
abbrev pub head_fields : KindLetter → List ℕ → List (List ℕ)
head_fields k signs = (68 ∷ []) ∷ (letter_byte k ∷ []) ∷ signs ∷ []

-- The line of a call: S and a value, E and a state, or L, a state, a sign and a state. Other calls have no line.
abbrev pub call_fields : List ℕ → Call → List (List ℕ)
call_fields signs (Grow v) = (83 ∷ []) ∷ decimal v ∷ []
call_fields signs (Enter p) = (69 ∷ []) ∷ decimal p ∷ []
call_fields signs (Link r) = (76 ∷ []) ∷ decimal r.from ∷ (slice_index signs r.letter ∷ []) ∷ decimal r.to ∷ []
call_fields signs (Unlink r) = []
call_fields signs (Leave p) = []
call_fields signs (Rate p v) = []

-- the call has a line: its numbers are at most 255 and its letter has a sign
abbrev pub HasLine : List ℕ → Call → Type 0
HasLine signs (Grow v) = v < 256
HasLine signs (Enter p) = p < 256
HasLine signs (Link r) = (r.from < 256) × (r.letter < length signs) × (r.to < 256)
HasLine signs (Unlink r) = ⊥
HasLine signs (Leave p) = ⊥
HasLine signs (Rate p v) = ⊥

abbrev pub AllHaveLines : List ℕ → List Call → Type 0
AllHaveLines signs [] = Unit {0}
AllHaveLines signs (c ∷ cs) = HasLine signs c × AllHaveLines signs cs

-- the text of a draft that is opened with these signs and drawn by these calls
abbrev pub spelled : KindLetter → List ℕ → List Call → List ℕ
spelled k signs calls = ended 10 (line_of (head_fields k signs) ∷ map (λ c. line_of (call_fields signs c)) calls)

-- A draft is written with its states by number, its entry states by number, and its arrows by
-- from-state, letter and to-state.
abbrev pub written : KindLetter → DraftModel → List ℕ
written k d = spelled k d.signs (redrawn d)
