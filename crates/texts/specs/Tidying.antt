-- What is printed of a text: the draft that it spells, as drafts are written, or the line of its refusal.
use Rattle.std.specs.Prelude.{ℕ, List, Ok, Err, Result}
use Rattle.texts.specs.declared.faults.TextFault.{TextFault}
use Rattle.texts.specs.Faults.{refusal_of}
use Rattle.texts.specs.Grammar.{written}
use Rattle.texts.specs.Reading.{Drawn, read_text}
use Rattle.texts.specs.Writing.{refusal_line}

abbrev pub tidy_from : Result Drawn TextFault → List ℕ
tidy_from (Ok d) = written d.0 d.1
tidy_from (Err e) = refusal_line (refusal_of e)

abbrev pub tidy_of : List ℕ → List ℕ
tidy_of text = tidy_from (read_text text)
