-- Strong induction, and cells numbered row after row, n to a row.
use Rattle.std.proofs.Common.{◌≡◌, ℕ, zero, suc, ◌+◌, ◌-◌, ◌*◌, ◌<◌, ◌≤◌, ◌⊎◌, ap, inl, inr, mul-le-mul_right, arith}
use Rattle.std.proofs.lemmas.Bool.{cases_lt, cases_order}

under : (P : ℕ → Type 0) → ((i : ℕ) → ((j : ℕ) → j < i → P j) → P i) → (m i : ℕ) → i < m → P i
under P f zero i h = let z : ⊥ = omega arith in absurd z
under P f (suc m) i h = f i (λ j l. under P f m j (omega arith))

pub strong : (P : ℕ → Type 0) → ((i : ℕ) → ((j : ℕ) → j < i → P j) → P i) → (i : ℕ) → P i
strong P f i = under P f (suc i) i (omega arith)

-- below the top number, or the top number
pub split_top : (i k : ℕ) → i < k + 1 → (i < k) ⊎ (i ≡ k)
split_top i k h = elim (cases_lt i k) [ inl l ↦ inl l | inr l ↦ inr (omega arith) ]

-- the row and the letter of a cell
pub divide : (n i k : ℕ) → k < i * n → (p : ℕ) × (a : ℕ) × (p < i) × (a < n) × (p * n + a ≡ k)
divide n zero k h = let z : ⊥ = omega arith in absurd z
divide n (suc i) k h = go (cases_lt k (i * n)) (divide n i k)
  where
    go : (k < i * n) ⊎ (i * n ≤ k) → (k < i * n → (p : ℕ) × (a : ℕ) × (p < i) × (a < n) × (p * n + a ≡ k)) → (p : ℕ) × (a : ℕ) × (p < suc i) × (a < n) × (p * n + a ≡ k)
    go (inl l) rec = let r = rec l in (r.0, r.1, omega arith, r.3, r.4)
    go (inr l) rec = (i, k - i * n, omega arith, omega arith, omega arith)

-- a cell of an earlier row comes before the later row
pub row_fits : (n x p a : ℕ) → a < n → p < x → p * n + a < x * n
row_fits n x p a h k = omega (arith, mul-le-mul_right n k)

-- cells are ordered by row, then by letter
pub cell-order : (n p q a b : ℕ) → a < n → b < n → p * n + a ≤ q * n + b → (p < q) ⊎ ((p ≡ q) × (a ≤ b))
cell-order n p q a b h k l = go (cases_order p q)
  where
    go : (p ≡ q) ⊎ ((p < q) ⊎ (q < p)) → (p < q) ⊎ ((p ≡ q) × (a ≤ b))
    go (inl e) = inr (e, omega (arith, ap (λ x. x * n) e))
    go (inr (inl l)) = inl l
    go (inr (inr g)) = let z : ⊥ = omega (arith, mul-le-mul_right n g) in absurd z

pub one_cell : (n p q a b : ℕ) → a < n → b < n → p * n + a ≡ q * n + b → (p ≡ q) × (a ≡ b)
one_cell n p q a b h k e = go (cell-order n p q a b h k (omega arith)) (cell-order n q p b a k h (omega arith))
  where
    go : (p < q) ⊎ ((p ≡ q) × (a ≤ b)) → (q < p) ⊎ ((q ≡ p) × (b ≤ a)) → (p ≡ q) × (a ≡ b)
    go (inl l) (inl g) = let z : ⊥ = omega arith in absurd z
    go (inl l) (inr g) = let z : ⊥ = omega arith in absurd z
    go (inr l) (inl g) = let z : ⊥ = omega arith in absurd z
    go (inr l) (inr g) = (l.0, omega arith)
