-- Two kinds written outside the library: what they admit and how they join.
use Rattle.std.specs.Prelude.{◌≡◌, ℕ, max, Bool, true, ◌||◌, ◌⊎◌, ◌==◌, refl}
use Rattle.std.proofs.Common.{sym, subst, inl, inr, arith}
use Rattle.std.proofs.lemmas.Bool.{eqb-true, cases_lt}
use Rattle.kinds.specs.Kinds.{KindModel}

-- 0 alone
abbrev pub nothing : KindModel
nothing = record {
  admits = λ a. (a == 0);
  op = λ a b. 0;
  none = 0;
  none_is = refl;
  none_admitted = refl;
  closed = λ a b h k. refl;
  unit = λ a h. sym (eqb-true a 0 h);
  assoc = λ a b c h k i. refl;
  comm = λ a b h k. refl;
  idem = λ a h. sym (eqb-true a 0 h);
}

-- 0, 2 and 7, joined to the larger
abbrev pub gapped : ℕ → Bool
gapped a = a == 0 || (a == 2 || a == 7)

pub gapped_max : (a b : ℕ) → gapped a ≡ true → gapped b ≡ true → gapped (max a b) ≡ true
gapped_max a b h k = elim (largest a b) [ inl e ↦ subst (λ (n : ℕ). gapped n ≡ true) (sym e) h | inr e ↦ subst (λ (n : ℕ). gapped n ≡ true) (sym e) k ]
  where
    largest : (a b : ℕ) → (max a b ≡ a) ⊎ (max a b ≡ b)
    largest a b = elim (cases_lt a b) [ inl l ↦ inr (omega arith) | inr l ↦ inl (omega arith) ]

abbrev pub gaps : KindModel
gaps = record {
  admits = gapped;
  op = max;
  none = 0;
  none_is = refl;
  none_admitted = refl;
  closed = gapped_max;
  unit = λ a h. omega arith;
  assoc = λ a b c h k i. omega arith;
  comm = λ a b h k. omega arith;
  idem = λ a h. omega arith;
}
