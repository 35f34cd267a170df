use Rattle.std.proofs.Common.{◌≡◌, ℕ, sym, ap, arith}
use Rattle.fields.proofs.Placed.{cut_none, cut_then}
use Rattle.drafts.specs.Canonical.{each_below}
use Rattle.texts.proofs.LinesPut.{puts_as, each_more}
use Rattle.texts.proofs.writing.put_each.Goals as goal

pub loop-i-init : goal.loop-i-init
loop-i-init g c = λ text h. cut_none c.args.out.now

pub loop-i-preserved : goal.loop-i-preserved
loop-i-preserved g c = λ text h. puts_as (sym (each_more c.loop-i.i text)) (cut_then (c.loop-i.invariant text h) (h c.loop-i.i _ _ c.loop-i-test.true c.put.ensures))

pub returns : goal.returns
returns g c =
    λ text h.
    let e : c.loop-i.i ≡ c.args.count = omega arith in
    puts_as (ap (λ (k : ℕ). each_below k text) e) (c.loop-i.invariant text h)
