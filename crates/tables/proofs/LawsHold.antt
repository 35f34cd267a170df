-- The laws of built tables.
use Rattle.std.proofs.Common.{ℕ, ◌≤◌, sym, ◌∙◌, subst, arith}
use Rattle.machines.specs.Models.{Spread}
use Rattle.machines.proofs.Building.{build_laws_lem}
use Rattle.tables.specs.Shown.{shown}
use Rattle.tables.specs.TableLaws.{TableLaws}
use Rattle.tables.proofs.GridLaws.{shown-count, same_grid}

pub table_laws_lem : (S R : Type 0) → TableLaws S R
table_laws_lem S R =
    let b = build_laws_lem S R in
    record {
      admitted = λ m d t es len a. b.admitted m (shown t) _ a.built;
      reads = λ m d t es len a. b.reads m (shown t) _ a.built;
      spread = λ m d t es len a. subst (Spread m) (shown-count t) (b.spread m (shown t) _ a.built);
      most = λ m d t es len c a s. subst (λ (n : ℕ). c ≤ n) (shown-count t) (b.most m (shown t) _ c a.built s);
      exact = λ m d t es len a s. omega (arith, b.most m (shown t) _ _ a.built s, shown-count t, t.few, a.listed, a.within);
      alike = λ m k d c t u es fs len n a e x. same_grid t u (a.signs ∙ (x.signs ∙ sym e.signs)) (b.alike m k (shown t) (shown u) _ _ x a.built e.built);
    }
