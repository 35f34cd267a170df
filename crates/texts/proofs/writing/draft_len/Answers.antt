use Rattle.std.proofs.Common.{arith}
use Rattle.texts.specs.Any.{letter_of_draft, held_by}
use Rattle.texts.proofs.Lengths.{length-shown}
use Rattle.texts.proofs.writing.draft_len.Goals as goal

pub returns : goal.returns
returns c = omega (arith, c.written_len.ensures, length-shown (letter_of_draft c.args.draft.now) (held_by c.args.draft.now))
