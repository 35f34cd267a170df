-- What reading gives, with drafts and signs as they are held.
use Rattle.std.specs.Prelude.{◌≡◌, ℕ, List, Ok, Err, Result}
use Rattle.kinds.specs.Kinds.{KindModel}
use Rattle.automata.specs.declared.signs.Signs.{Signs}
use Rattle.drafts.specs.declared.draft.Draft.{Draft}
use Rattle.automata.specs.Drafts.{DraftModel, fresh}
use Rattle.automata.specs.Shown.{sign_bytes}
use Rattle.drafts.specs.Drawn.{drawn}
use Rattle.texts.specs.declared.letters.KindLetter.{KindLetter}
use Rattle.texts.specs.declared.faults.LineFault.{LineFault}
use Rattle.texts.specs.declared.faults.TextFault.{TextFault}
use Rattle.texts.specs.declared.any.AnyDraft.{AnyDraft}
use Rattle.texts.specs.Any.{letter_of_draft, model_of}
use Rattle.texts.specs.Grammar.{kind_of}
use Rattle.texts.specs.Reading.{head_of_line, draft_after_line, draft_after_lines, as_drawn, read_text, lines_in}

-- the first line
abbrev pub HeadRead : List ℕ → Result (KindLetter × Signs) LineFault → Type 0
HeadRead l (Ok h) = head_of_line l ≡ Ok (h.0, sign_bytes h.1)
HeadRead l (Err e) = head_of_line l ≡ Err e

-- one line more on d, which leaves e
abbrev pub LineRead : KindModel → DraftModel → List ℕ → DraftModel → Result (Unit {0}) LineFault → Type 0
LineRead K d l e (Ok u) = draft_after_line K d l ≡ Ok e
LineRead K d l e (Err x) = draft_after_line K d l ≡ Err x

-- the lines from the second on
abbrev pub LinesRead : {K : Type 0} → KindModel → DraftModel → List ℕ → Result (Draft K) TextFault → Type 0
LinesRead M d text (Ok e) = draft_after_lines M 2 d (lines_in text) ≡ Ok (drawn e)
LinesRead M d text (Err x) = draft_after_lines M 2 d (lines_in text) ≡ Err x

-- the same, with the kind that the first line names
abbrev pub RestRead : KindLetter → List ℕ → List ℕ → Result AnyDraft TextFault → Type 0
RestRead k signs text (Ok d) = as_drawn k (draft_after_lines (kind_of k) 2 (fresh signs) (lines_in text)) ≡ Ok (letter_of_draft d, model_of d)
RestRead k signs text (Err e) = as_drawn k (draft_after_lines (kind_of k) 2 (fresh signs) (lines_in text)) ≡ Err e

-- a whole text
abbrev pub DraftRead : List ℕ → Result AnyDraft TextFault → Type 0
DraftRead text (Ok d) = read_text text ≡ Ok (letter_of_draft d, model_of d)
DraftRead text (Err e) = read_text text ≡ Err e
