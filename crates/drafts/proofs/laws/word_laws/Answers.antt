use Rattle.drafts.proofs.Meanings.{word_laws}
use Rattle.drafts.proofs.laws.word_laws.Goals as goal

pub returns : goal.returns
returns g c d = word_laws g.K.Kind.model d
