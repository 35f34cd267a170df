use Rattle.std.proofs.Common.{ℕ, cond, ap, ◌∙◌, rules, of_calls}
use denote.Param.Members.{step_stays_lem}
use Rattle.std.specs.List.{fold, range_with_len}
use Rattle.kinds.specs.Kinds.{join}
use Rattle.views.proofs.Chains.{range_items, chain, chain_in_one}
use Rattle.views.proofs.Folded.{joined}
use Rattle.views.proofs.joins.join_over.Goals as goal

pub returns : goal.returns
returns g c = λ s f hs hf.
    let K = g.K.Kind.model in
    let n = c.args.count in
    let a = c.fold.ensures.runs in
    let next : ℕ → ℕ → ℕ = λ x p. cond (s p) (join K x (f p)) x in
    a.3 next (λ x y z q k. (Prim.search (rules, of_calls, step_stays_lem), k.met.1 (s y) (f y) (hs y) (hf y)))
    ∙ ap (fold next c.none.result) (range_items a.0 n a.2 a.1)
    ∙ chain_in_one (join K) c.none.result s f c.none.result (range_with_len 0 n)
    ∙ ap (λ x. chain (join K) x s f n) c.none.ensures ∙ joined K s f n
