use Rattle.std.proofs.Common.{◌-◌, ◌<◌, length, take, sym, ◌∙◌, arith, length-take, below_more, eq-eqb}
use Rattle.std.proofs.lemmas.List.{get_or-take}
use Rattle.std.proofs.lemmas.Bool.{both_ways, eqb-true}
use Rattle.automata.proofs.SignLaws.{fault-none, fault_byte}
use Rattle.automata.proofs.signs.making.check_signs.Goals as goal
use Rattle.automata.proofs.signs.making.check_signs.Goals.{then-sign-lt33-via-then-sign-lt33, then-sign-lt33-via-else-sign-lt33+then-sign-gt126}

pub returns-then-sign-lt33 : goal.returns-then-sign-lt33
returns-then-sign-lt33 c =
    let i = c.loop-i.invariant in
    fault_byte c.args.signs.now i.0 i.1 c.loop-i.i c.loop-i-test.true
    (λ g. elim c.then-sign-lt33.branch [
      | then-sign-lt33-via-then-sign-lt33 w ↦ omega (arith, g.0.0, w.if-sign-lt33.true)
      | then-sign-lt33-via-else-sign-lt33+then-sign-gt126 w ↦ omega (arith, g.0.1, w.if-sign-gt126.true)
    ])

pub returns-then-contains : goal.returns-then-contains
returns-then-contains c =
    let i = c.loop-i.invariant in
    let h = c.if-contains.ensures.cases in
    let l : h.0 < c.loop-i.i - 0 = omega (arith, simp length-take at h.1) in
    let e = get_or-take (c.loop-i.i - 0) c.args.signs.now h.0 0 l in
    fault_byte c.args.signs.now i.0 i.1 c.loop-i.i c.loop-i-test.true
    (λ g. g.1 h.0 (omega arith) (sym e ∙ eqb-true _ _ (h.2 0)))

pub loop-i-preserved : goal.loop-i-preserved
loop-i-preserved c =
    let i = c.loop-i.invariant in (
      i.0,
      i.1,
      below_more _ _ i.2 (c.if-sign-lt33.false, c.if-sign-gt126.false),
      below_more _ _ i.3
          (λ j l e.
          let lt : j < length (take (c.loop-i.i - 0) c.args.signs.now) = simp length-take (omega (arith, c.loop-i-test.true)) in
          let t = get_or-take (c.loop-i.i - 0) c.args.signs.now j 0 (omega arith) in
          both_ways _ (c.if-contains.ensures.cases j 0 (omega arith) lt) (eq-eqb _ _ (t ∙ e))),
    )

pub returns : goal.returns
returns c =
    let i = c.loop-i.invariant in
    fault-none c.args.signs.now i.0 i.1
    (λ k l. i.2 k (omega (arith, c.loop-i-test.false))) (λ k l. i.3 k (omega (arith, c.loop-i-test.false)))
