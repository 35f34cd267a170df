use Rattle.std.proofs.Common.{set, refl, ap, ◌∙◌, arith}
use Rattle.views.specs.Colourings.{coloured}
use Rattle.views.proofs.ColouredLaws.{made, coloured-first, colour_next, coloured_cut}
use Rattle.views.proofs.colouring.Colouring.of.Goals as goal

pub loop-p-init : goal.loop-p-init
loop-p-init g c = λ f h. coloured-first g.K.Kind.model f c.none-codes.result c.none-codes.ensures

pub loop-p-preserved : goal.loop-p-preserved
loop-p-preserved g c = λ f h.
    colour_next g.K.Kind.model c.loop-p.p f c.code.result (made (set c.loop-p.codes c.loop-p.p c.code.result)) (made c.loop-p.codes) (c.loop-p.invariant f h) (h c.loop-p.p c.code.result c.code.ensures) refl

pub returns : goal.returns
returns g c = λ f h.
    c.loop-p.invariant f h
    ∙ (ap (λ n. coloured g.K.Kind.model n f) (omega (arith, c.loop-p.auto.p-end, c.loop-p-test.false, c.min-p-end.ensures)) ∙ coloured_cut g.K.Kind.model c.args.count f)
