-- What is read of a state that there is.
use Rattle.std.proofs.Common.{◌≡◌, ℕ, ◌<◌, cond, ltb, get_or, Some, None, Option, unwrap_or, ap, ◌∙◌}
use Rattle.std.proofs.lemmas.Bool.{lt-ltb, cond-true}
use Rattle.machines.specs.Tables.{TableModel, count}

pub value_read : (t : TableModel) (i v : ℕ) → i < count t → Some v ≡ cond (ltb i (count t)) (Some (get_or t.values i 0)) None → v ≡ get_or t.values i 0
value_read t i v l e = ap (λ (x : Option ℕ). unwrap_or x 0) (e ∙ cond-true (ltb i (count t)) (Some (get_or t.values i 0)) None (lt-ltb i (count t) l))
