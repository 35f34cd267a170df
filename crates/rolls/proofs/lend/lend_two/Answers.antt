use Rattle.std.proofs.Common.{◌≡◌, ℕ, ◌≤◌, ◌⊎◌, length, set, replicate, is_ok, Decides, ap, ◌∙◌, subst, rules}
use lib.ListN.{length-replicate}
use Rattle.rolls.proofs.TwoPlaced.{equal_placed, other_placed, both_there}
use Rattle.rolls.proofs.lend.lend_two.Goals as goal

pub returns : goal.returns
returns g c =
    let x = c.args.x in
    let y = c.args.y in
    let d = g.T.State.blank in
    let n = (length c.args.entries.now) in
    let roll = c.fresh-roll.result in
    let one = c.place.new.self in
    let two = c.place-2.new.self in
    let blank : c.fresh-roll.result.entries.now ≡ replicate (length c.args.entries.now) g.T.State.blank = c.fresh-roll.ensures.items in
    let long : length c.fresh-roll.result.entries.now ≡ (length c.args.entries.now) = ap length blank ∙ length-replicate n d in
    record {
      equal = λ e.
          let left : c.place-2.new.self.entries.now ≡ set (replicate (length c.args.entries.now) g.T.State.blank) 0 c.args.x =
          equal_placed x y d roll.entries.now roll.len one.entries.now one.len two.entries.now two.len c.place.result c.place-2.result
          c.fresh-roll.ensures.len c.place.ensures.placed c.place-2.ensures.placed e
          ∙ ap (λ l. set l 0 x) blank in
          search rules;
      apart = λ ne.
          let left : c.place-2.new.self.entries.now ≡ set (set (replicate (length c.args.entries.now) g.T.State.blank) 0 c.args.x) 1 c.args.y =
          other_placed x y d roll.entries.now roll.len one.entries.now one.len two.entries.now two.len c.place.result c.place-2.result
          c.fresh-roll.ensures.len c.place.ensures.placed c.place-2.ensures.placed ne
          ∙ ap (λ l. set (set l 0 x) 1 y) blank in
          search rules;
      answer = subst (λ (k : ℕ). Decides (is_ok c.place-2.result) ((1 ≤ k) × ((c.args.x ≡ c.args.y) ⊎ (2 ≤ k)))) long
          (both_there x y d roll.entries.now roll.len one.entries.now one.len two.entries.now two.len c.place.result c.place-2.result
          c.fresh-roll.ensures.len c.place.ensures.placed c.place-2.ensures.placed);
    }
