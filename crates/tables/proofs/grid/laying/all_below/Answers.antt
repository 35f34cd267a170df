use Rattle.std.proofs.Common.{◌≡◌, true, false, nat_lt, rules}
use Rattle.std.proofs.lemmas.Iterator.{cases_from_all, YieldsList-from_slice}
use Rattle.tables.proofs.Padded.{every_is}
use Rattle.tables.proofs.grid.laying.all_below.Goals as goal

pub returns : goal.returns
returns c =
    let count = c.args.count in
    every_is c.args.next.now (λ x. nat_lt x count) c.all.result
    (cases_from_all _ _ c.all.result (λ x. nat_lt x count ≡ true) (λ x. nat_lt x count ≡ false) c.all.ensures.ran (YieldsList-from_slice c.args.next.now cc)
    (λ x q k. search rules) (λ x q k. search rules))
