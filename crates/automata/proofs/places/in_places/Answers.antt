use Rattle.std.proofs.Common.{◌≡◌, get_or, rules}
use Rattle.automata.proofs.Placed.{made, places_are}
use Rattle.automata.proofs.places.in_places.Goals as goal

pub returns : goal.returns
returns g c =
    places_are g.row.N c.args.items.now c.args.blank c.from_fn.result c.from_fn.ensures.items.long
    (λ k l. made _ _ (λ i y. y ≡ get_or c.args.items.now i c.args.blank) (λ i y h q. search rules) _ _ c.from_fn.ensures.items k c.args.blank l)
