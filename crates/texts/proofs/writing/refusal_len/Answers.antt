use Rattle.std.proofs.Common.{arith}
use Rattle.texts.proofs.Lengths.{length-refusal}
use Rattle.texts.proofs.writing.refusal_len.Goals as goal

pub returns : goal.returns
returns c = omega (arith, c.written_len.ensures, length-refusal c.args.refusal (omega arith) (omega arith) (omega arith) (omega arith))
