-- Two tables numbered by first reach whose states are tied one to one are equal.
use Rattle.std.proofs.Common.{◌≡◌, ℕ, zero, suc, ◌-◌, ◌*◌, ◌<◌, ◌≤◌, ◌⊎◌, length, get_or, sym, ap, ◌∙◌, subst, inl, inr, arith, ext_get_or}
use Rattle.std.proofs.lemmas.Bool.{cases_order}
use Rattle.machines.specs.Tables.{TableModel, count, next}
use Rattle.machines.proofs.Numbers.{strong, divide}
use Rattle.machines.proofs.Walks.{FirstCell, ByFirstReach}

abbrev cell : TableModel → ℕ → ℕ
cell t k = get_or t.cells k 0

-- R ties states of t to states of u, the first ones too; tied states lead to tied ones, and R is one to one.
pub record Tied (n : ℕ) (t u : TableModel) (R : ℕ → ℕ → Type 0) : Type 0 where
  pub left : (i j : ℕ) → R i j → i < count t
  pub right : (i j : ℕ) → R i j → j < count u
  pub base : R 0 0
  pub step : (i j a : ℕ) → R i j → a < n → R (next n t i a) (next n u j a)
  pub one_right : (i j k : ℕ) → R i j → R i k → j ≡ k
  pub one_left : (i j k : ℕ) → R i k → R j k → i ≡ j

flip : {n : ℕ} {t u : TableModel} {R : ℕ → ℕ → Type 0} → Tied n t u R → Tied n u t (λ i j. R j i)
flip k = record {
  left = λ i j. k.right j i;
  right = λ i j. k.left j i;
  base = k.base;
  step = λ i j. k.step j i;
  one_right = λ i j l. k.one_left j l i;
  one_left = λ i j l. k.one_right l i j;
}

module _ {n : ℕ} {t u : TableModel} {R : ℕ → ℕ → Type 0} (tied : Tied n t u R) (ot : ByFirstReach n t) (ou : ByFirstReach n u) where
  at-cell : (i k : ℕ) → k < i * n → ((j : ℕ) → j < i → R j j) → R (cell t k) (cell u k)
  at-cell i k h ih =
      let r = divide n i k h in
      subst (λ l. R (cell t l) (cell u l)) r.4 (tied.step r.0 r.0 r.1 (ih r.0 r.2) r.3)

  lock-step : (i : ℕ) → ((j : ℕ) → j < i → j < count t → R j j) → i < count t → R i i
  lock-step zero ih h = tied.base
  lock-step (suc i) ih h = go (cases_order (cell u k) (suc i))
    where
      ih' : (j : ℕ) → j < suc i → R j j
      ih' j l = ih j l (omega arith)

      c : (k : ℕ) × (k < suc i * n) × FirstCell t.cells (suc i) k
      c = ot (suc i) (omega arith) h

      k : ℕ
      k = c.0

      here : R (suc i) (cell u k)
      here = subst (λ x. R x (cell u k)) c.2.0 (at-cell (suc i) k c.1 ih')

      before : (l : ℕ) → l < k → cell u l < suc i
      before l h₁ =
          let small = c.2.1 l h₁ in
          let e = tied.one_right (cell t l) (cell u l) (cell t l) (at-cell (suc i) l (omega (arith, c.1)) ih') (ih' (cell t l) small) in
          omega arith

      late : (d : (k : ℕ) × (k < suc i * n) × FirstCell u.cells (suc i) k) → suc i < cell u k → (k ≡ d.0) ⊎ ((k < d.0) ⊎ (d.0 < k)) → ⊥
      late d g (inl e) = omega (arith, d.2.0, ap (cell u) e)
      late d g (inr (inl l)) = omega (arith, d.2.1 k l)
      late d g (inr (inr l)) = omega (arith, d.2.0, before d.0 l)

      go : (cell u k ≡ suc i) ⊎ ((cell u k < suc i) ⊎ (suc i < cell u k)) → R (suc i) (suc i)
      go (inl e) = subst (λ x. R (suc i) x) e here
      go (inr (inl l)) = let z : ⊥ = omega (arith, tied.one_left (suc i) (cell u k) (cell u k) here (ih' (cell u k) l)) in absurd z
      go (inr (inr g)) = let d = ou (suc i) (omega arith) (omega (arith, tied.right (suc i) (cell u k) here)) in absurd (late d g (cases_order k d.0))

  -- each state is tied to the one of its own number
  pub lock : (i : ℕ) → i < count t → R i i
  lock = strong (λ i. i < count t → R i i) lock-step

  no_more : count t ≤ count u
  no_more =
      let h = tied.left 0 0 tied.base in
      let l = lock (count t - 1) (omega arith) in
      omega (arith, tied.right (count t - 1) (count t - 1) l)

  cells_agree : (k : ℕ) → k < count t * n → cell t k ≡ cell u k
  cells_agree k h =
      let r = at-cell (count t) k h lock in
      sym (tied.one_right (cell t k) (cell u k) (cell t k) r (lock (cell t k) (tied.left (cell t k) (cell u k) r)))

module _ {n : ℕ} {t u : TableModel} {R : ℕ → ℕ → Type 0} (tied : Tied n t u R) (ot : ByFirstReach n t) (ou : ByFirstReach n u) where
  pub tied_count : count t ≡ count u
  tied_count = omega (arith, no_more tied ot ou, no_more (flip tied) ou ot)

  pub tied_table : length t.cells ≡ count t * n → length u.cells ≡ count u * n → ((i : ℕ) → R i i → get_or t.values i 0 ≡ get_or u.values i 0) → t ≡ u
  tied_table st su values =
      let vs = ext_get_or 0 t.values u.values tied_count (λ i h. values i (lock tied ot ou i h)) in
      let cs = ext_get_or 0 t.cells u.cells (st ∙ ap (λ c. c * n) tied_count ∙ sym su) (λ k h. cells_agree tied ot ou k (rw st at h)) in
      λ i. record { values = vs i; cells = cs i }
