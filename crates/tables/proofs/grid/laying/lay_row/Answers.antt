use Rattle.std.proofs.Common.{◌≡◌, ℕ, ◌+◌, ◌-◌, ◌*◌, ◌<◌, List, length, get_or, take, drop, set, ap, ◌∙◌, arith, length-take, length-drop}
use Rattle.std.proofs.lemmas.List.{get_or-take, get_or-drop}
use Rattle.tables.specs.Laying.{padded}
use Rattle.tables.proofs.Padded.{padded-more}
use Rattle.tables.proofs.grid.laying.lay_row.Goals as goal

pub loop-a-preserved : goal.loop-a-preserved
loop-a-preserved c =
    let next = c.args.next.now in
    let a = c.loop-a.a in
    let n = c.args.i * c.args.letters in
    let f = λ (b : ℕ). get_or c.args.next.now (c.args.i * c.args.letters + b) 0 in
    let rest = take (length c.args.next.now - c.args.i * c.args.letters) (drop (c.args.i * c.args.letters) c.args.next.now) in
    let la : c.loop-a.a < c.args.letters = omega (arith, simp length-take at c.loop-a-test.true) in
    let e = get_or-take c.args.letters rest a 0 la ∙ (get_or-take (length next - n) (drop n next) a 0 (omega (arith, c.requires.within)) ∙ get_or-drop n next a 0) in
    ap (λ (r : List ℕ). set r a (get_or (take c.args.letters rest) a 0)) c.loop-a.invariant
    ∙ padded-more 16 0 f a (get_or (take c.args.letters rest) a 0) (omega (arith, c.requires.few)) e

pub returns : goal.returns
returns c =
    let f = λ (b : ℕ). get_or c.args.next.now (c.args.i * c.args.letters + b) 0 in
    let long : length (take c.args.letters (take (length c.args.next.now - c.args.i * c.args.letters) (drop (c.args.i * c.args.letters) c.args.next.now))) ≡ c.args.letters =
    simp (length-take, length-drop) (omega (arith, c.requires.within)) in
    let e : c.loop-a.a ≡ c.args.letters = omega (arith, long, c.loop-a-test.false, c.loop-a.auto.a-end) in
    c.loop-a.invariant ∙ ap (λ (n : ℕ). padded 16 0 n f) e
