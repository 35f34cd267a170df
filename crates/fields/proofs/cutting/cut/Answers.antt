use Rattle.fields.proofs.Separated.{piece_laws}
use Rattle.fields.proofs.cutting.cut.Goals as goal

pub returns-in_err-place-clause-laws : goal.returns-in_err-place-clause-laws
returns-in_err-place-clause-laws c = piece_laws

pub returns-clause-laws : goal.returns-clause-laws
returns-clause-laws c = piece_laws
