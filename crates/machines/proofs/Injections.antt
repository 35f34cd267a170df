-- One-to-one maps of the numbers below m into those below n.
use Rattle.std.proofs.Common.{◌≡◌, ℕ, zero, suc, ◌-◌, ◌<◌, ◌≤◌, ◌⊎◌, sym, ap, ◌∙◌, inl, inr, arith}
use native.Mathlib.Decide.{ℕ_discrete, dec_lt}

abbrev pub Into : ℕ → ℕ → (ℕ → ℕ) → Type 0
Into m n f = (i : ℕ) → i < m → f i < n

abbrev pub OneToOne : ℕ → (ℕ → ℕ) → Type 0
OneToOne m f = (i j : ℕ) → i < m → j < m → f i ≡ f j → i ≡ j

-- the numbers but x, closed up
abbrev skip : (x y : ℕ) → Dec (y < x) → ℕ
skip x y (yes h) = y
skip x y (no h) = y - 1

skip_below : (x y n : ℕ) (d : Dec (y < x)) → x < suc n → y < suc n → (y ≡ x → ⊥) → skip x y d < n
skip_below x y n (yes h) l k e = omega arith
skip_below x y n (no h) l k e = omega arith

skip-apart : (x y z : ℕ) (d : Dec (y < x)) (e : Dec (z < x)) → (y ≡ x → ⊥) → (z ≡ x → ⊥) → skip x y d ≡ skip x z e → y ≡ z
skip-apart x y z (yes h) (yes k) a b p = p
skip-apart x y z (yes h) (no k) a b p = omega arith
skip-apart x y z (no h) (yes k) a b p = omega arith
skip-apart x y z (no h) (no k) a b p = omega arith

-- the pigeonhole principle
pub no_fewer : (m n : ℕ) (f : ℕ → ℕ) → Into m n f → OneToOne m f → m ≤ n
no_fewer zero n f into one = omega arith
no_fewer (suc m) zero f into one = let z : ⊥ = omega (arith, into 0 (omega arith)) in absurd z
no_fewer (suc m) (suc n) f into one =
    let r = no_fewer m n (λ i. skip (f m) (f i) (dec_lt (f i) (f m)))
    (λ i h. skip_below (f m) (f i) n (dec_lt (f i) (f m)) (into m (omega arith)) (into i (omega arith)) (λ e. omega (arith, one i m (omega arith) (omega arith) e)))
    (λ i j h k e. one i j (omega arith) (omega arith) (skip-apart (f m) (f i) (f j) (dec_lt (f i) (f m)) (dec_lt (f j) (f m))
    (λ p. omega (arith, one i m (omega arith) (omega arith) p)) (λ p. omega (arith, one j m (omega arith) (omega arith) p)) e)) in
    omega arith

-- is y the f of a number below m
find : (m : ℕ) (f : ℕ → ℕ) (y : ℕ) → ((x : ℕ) × (x < m) × (f x ≡ y)) ⊎ ((x : ℕ) → x < m → f x ≡ y → ⊥)
find zero f y = inr (λ x h e. omega arith)
find (suc m) f y = go (ℕ_discrete (f m) y) (find m f y)
  where
    go : Dec (f m ≡ y) → ((x : ℕ) × (x < m) × (f x ≡ y)) ⊎ ((x : ℕ) → x < m → f x ≡ y → ⊥) → ((x : ℕ) × (x < suc m) × (f x ≡ y)) ⊎ ((x : ℕ) → x < suc m → f x ≡ y → ⊥)
    go (yes e) r = inl (m, omega arith, e)
    go (no n) (inl r) = inl (r.0, omega arith, r.2)
    go (no n) (inr r) = inr (λ x h e. top x h e (ℕ_discrete x m))
      where
        top : (x : ℕ) → x < suc m → f x ≡ y → Dec (x ≡ m) → ⊥
        top x h e (yes p) = n (ap f (sym p) ∙ e)
        top x h e (no p) = r x (omega arith) e

-- where there are as many, each number is met
pub onto : (m : ℕ) (f : ℕ → ℕ) → Into m m f → OneToOne m f → (y : ℕ) → y < m → (x : ℕ) × (x < m) × (f x ≡ y)
onto zero f into one y h = let z : ⊥ = omega arith in absurd z
onto (suc m) f into one y h = go (find (suc m) f y)
  where
    go : ((x : ℕ) × (x < suc m) × (f x ≡ y)) ⊎ ((x : ℕ) → x < suc m → f x ≡ y → ⊥) → (x : ℕ) × (x < suc m) × (f x ≡ y)
    go (inl r) = r
    go (inr none) =
        let r = no_fewer (suc m) m (λ i. skip y (f i) (dec_lt (f i) y))
        (λ i l. skip_below y (f i) m (dec_lt (f i) y) h (into i l) (none i l))
        (λ i j l k e. one i j l k (skip-apart y (f i) (f j) (dec_lt (f i) y) (dec_lt (f j) y) (none i l) (none j k) e)) in
        let z : ⊥ = omega arith in absurd z
