use Rattle.texts.specs.Any.{letter_of_draft, model_of}
use Rattle.texts.proofs.TextLaws.{drawn-read}
use Rattle.texts.proofs.writing.write_draft.Goals as goal

pub returns-clause-back : goal.returns-clause-back
returns-clause-back c = drawn-read (letter_of_draft c.args.draft.now) (model_of c.args.draft.now)
