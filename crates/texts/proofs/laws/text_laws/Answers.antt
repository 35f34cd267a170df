use Rattle.texts.proofs.TextLaws.{text_laws_lem}
use Rattle.texts.proofs.laws.text_laws.Goals as goal

pub returns : goal.returns
returns c = text_laws_lem
