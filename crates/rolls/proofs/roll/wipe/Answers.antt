use Rattle.std.proofs.Common.{ℕ, replicate, ap, ◌∙◌, rules}
use Rattle.rolls.proofs.Filled.{filled}
use Rattle.rolls.proofs.roll.wipe.Goals as goal

pub returns : goal.returns
returns g c =
    let r = c.fill_with.ensures.ran in
    let b = g.T.State.blank in
    filled _ _ _ _ b r.1 (λ p x q k. Prim.search rules) ∙ ap (λ (n : ℕ). replicate n b) c.fill_with.ensures.len
