use Rattle.std.proofs.Common.{ℕ, ◌∙◌, ◌/◌, ◌%◌, ◌^◌, ap, eqb, arith}
use Rattle.automata.proofs.Bits.{or_bit, either_bit}
use Rattle.automata.proofs.sets.StateSet.union.Goals as goal

pub returns : goal.returns
returns c = λ q.
    let s = c.args.self.bits in
    let t = c.args.other.bits in
    ap (λ (n : ℕ). eqb n 1) (or_bit s t q) ∙ either_bit (s / 2 ^ q % 2) (t / 2 ^ q % 2) (omega arith) (omega arith)
