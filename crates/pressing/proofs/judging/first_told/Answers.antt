use Rattle.std.proofs.Common.{ℕ, Option, subst, rules}
use Rattle.std.proofs.lemmas.Iterator.{first_from_Range}
use Rattle.pressing.specs.Verdicts.{AloneTo, FirstPair, FirstTold}
use Rattle.pressing.proofs.Columns.{told_of}
use Rattle.pressing.proofs.judging.first_told.Goals as goal

pub returns : goal.returns
returns g c =
    let K = g.K.Kind.model in
    let back = c.args.columns.now in
    let last = c.args.chart.now in
    -- that the answer is what `find` found is left to the search, so that it may come by another call
    subst (λ (r : Option ℕ). FirstTold K back.entries.now back.len last.entries.now last.len c.args.count r) {x = c.find.result} (search rules)
    (told_of K back.entries.now back.len last.entries.now last.len c.args.count c.find.result
    (first_from_Range _ _ _ c.find.result
    (λ q. (i : ℕ) × (j : ℕ) × FirstPair K back.entries.now back.len last.entries.now last.len q i j)
    (λ q. AloneTo K back.entries.now back.len last.entries.now last.len q back.len)
    c.find.ensures.ran (λ x q k. search rules) (λ x q k. search rules)))
