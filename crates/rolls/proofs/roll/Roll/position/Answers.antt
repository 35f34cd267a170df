use Rattle.std.proofs.Common.{◌≡◌, ◌≢◌, take, ◌∙◌, rules}
use Rattle.std.proofs.lemmas.Iterator.{IsFirst-from_position, YieldsList-from_slice}
use Rattle.rolls.proofs.Searching.{searched, addable}
use Rattle.rolls.proofs.roll.Roll.position.Goals as goal

-- the test of each entry tells exactly whether it is x
pub returns : goal.returns
returns g c =
    let x = c.args.x.now in
    let d = g.T.State.blank in
    let roll = c.args.self.now in
    let m = IsFirst-from_position _ _ c.position.result (λ y. y ≡ x) (λ y. y ≢ x) c.position.ensures.ran
    (YieldsList-from_slice (take roll.len roll.entries.now) (c.iter.ensures.rest ∙ c.as_slice.ensures))
    (λ y q k. search rules)
    (λ y q k. (search rules, search rules)) in
    let found = searched x d roll.entries.now roll.len roll.within c.position.result m in
    record { first = found; addable = addable x d roll.entries.now roll.len roll.within c.position.result roll.different found }
