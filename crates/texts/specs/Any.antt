-- A draft of one of the kinds that have a letter.
use Rattle.automata.specs.declared.automaton.Automaton.{Automaton}
use Rattle.automata.specs.Drafts.{DraftModel}
use Rattle.automata.specs.Shown.{shown}
use Rattle.texts.specs.declared.letters.KindLetter.{KindLetter}
use Rattle.texts.specs.declared.letters.KindLetter.TheVariants.{Y, R, M}
use Rattle.texts.specs.declared.any.AnyDraft.{AnyDraft}
use Rattle.texts.specs.declared.any.AnyDraft.TheVariants.{OfY, OfR, OfM}

abbrev pub letter_of_draft : AnyDraft → KindLetter
letter_of_draft (OfY d) = Y
letter_of_draft (OfR d) = R
letter_of_draft (OfM d) = M

abbrev pub held_by : AnyDraft → Automaton
held_by (OfY d) = d.automaton
held_by (OfR d) = d.automaton
held_by (OfM d) = d.automaton

abbrev pub model_of : AnyDraft → DraftModel
model_of d = shown (held_by d)
