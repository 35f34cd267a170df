use Rattle.std.proofs.Common.{ℕ, List, length, take, sym, ap, ◌∙◌, subst}
use Rattle.automata.specs.Signs.{Visible, Apart, BlankPast}
use Rattle.automata.proofs.Placed.{placed-length, placed-front}
use Rattle.automata.proofs.SignLaws.{decides_counted, accepted-parts, visible_from, apart_from, placed-visible, placed-apart, placed-blank}
use Rattle.automata.proofs.signs.Signs.new.Goals as goal

pub invariant_of-result : goal.invariant_of-result
invariant_of-result c =
    let xs = c.args.signs.now in
    let e = c.in_places.ensures in
    let a = accepted-parts xs c.in_ok-check_signs.ensures in
    let n = (decides_counted xs).0 a.0 in
    record {
      wide = ap length e ∙ placed-length 16 xs 0;
      some = n.0;
      few = n.1;
      visible = subst (λ (bs : List ℕ). Visible bs (length xs)) (sym e) (placed-visible xs n.1 (visible_from xs a.1));
      apart = subst (λ (bs : List ℕ). Apart bs (length xs)) (sym e) (placed-apart xs n.1 (apart_from xs a.1));
      blank = subst (λ (bs : List ℕ). BlankPast bs (length xs)) (sym e) (placed-blank xs);
    }

pub returns : goal.returns
returns c =
    let xs = c.args.signs.now in
    let n = (decides_counted xs).0 (accepted-parts xs c.in_ok-check_signs.ensures).0 in
    (c.in_ok-check_signs.ensures, ap (take (length xs)) c.in_places.ensures ∙ placed-front 16 xs 0 n.1)
