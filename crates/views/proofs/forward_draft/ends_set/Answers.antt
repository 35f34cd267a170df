use Rattle.std.proofs.Common.{ℕ, ◌&&◌, map, ap, ◌∙◌, arith, rules}
use Rattle.std.specs.List.{fold, filter}
use Rattle.automata.specs.declared.sets.StateSet.{StateSet}
use Rattle.automata.specs.Held.{ends_of}
use Rattle.automata.specs.Sets.{has}
use Rattle.automata.specs.Tests.{some}
use Rattle.automata.proofs.SetLaws.{same_members}
use Rattle.views.proofs.Chains.{range_items, chain}
use Rattle.views.proofs.Folded.{has-united}
use Rattle.views.proofs.ThoseLaws.{either, either_is}
use Rattle.views.proofs.Reaches.{ends_are}
use Rattle.views.proofs.forward_draft.ends_set.Goals as goal

pub returns : goal.returns
returns c = ends_are c.args.automaton.now c.fold.result c.args.set c.args.letter (λ q.
    let s = has c.args.set in
    let ends : ℕ → StateSet = λ p. ends_of c.args.automaton.now.rows p c.args.letter in
    let n = c.state_count.result in
    let a = c.fold.ensures.runs in
    let b = c.map.ensures.runs a.0 a.0.seen a.1 in
    let d = c.filter.ensures.runs b.0 b.0.seen b.1 in
    ap (λ (t : StateSet). has t q)
    (a.3 either (λ x y z h k. (Prim.search rules, either_is x y z (Prim.search rules)))
    ∙ ap (fold either c.empty.result)
    (b.2.3 ends (λ x z h k. (Prim.search rules, same_members z (ends x) (λ q. grind arith)))
    ∙ ap (map ends) (d.2.4 s (λ x z h k. Prim.search rules) ∙ ap (filter s) (range_items d.0 n (d.2.0 ∙ b.2.0 ∙ a.2) d.1)))
    ∙ ap (λ (x : StateSet). chain either x s ends n) c.empty.ensures)
    ∙ has-united s ends n q
    ∙ ap (λ m. some m (λ p. s p && has (ends p) q)) c.state_count.ensures)
