use Rattle.std.proofs.Common.{◌≡◌, true, false, rules}
use Rattle.std.proofs.lemmas.Iterator.{cases_from_all, YieldsList-from_slice}
use Rattle.tables.proofs.Padded.{every_is}
use Rattle.tables.proofs.grid.laying.all_admitted.Goals as goal

pub returns : goal.returns
returns g c =
    let admits = g.K.Kind.model.admits in
    every_is c.args.values.now admits c.all.result
    (cases_from_all _ _ c.all.result (λ x. admits x ≡ true) (λ x. admits x ≡ false) c.all.ensures.ran (YieldsList-from_slice c.args.values.now cc)
    (λ x q k. search rules) (λ x q k. search rules))
