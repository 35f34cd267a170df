-- The order of arrows by from-state, letter and to-state, as a test, and its steps.
use Rattle.std.proofs.Common.{◌≡◌, ℕ, suc, ◌<◌, Bool, true, false, ◌&&◌, ◌||◌, eqb, ltb, arith}
use Rattle.std.proofs.lemmas.Bool.Decides.{nat_tests}

-- one number more
pub ltb_next : (x n : ℕ) → ltb x (suc n) ≡ (eqb x n || ltb x n)
ltb_next x n = grind (arith, nat_tests)

-- the arrow (x, y, z) stands before (p, a, q)
abbrev pub before : ℕ → ℕ → ℕ → ℕ → ℕ → ℕ → Bool
before p a q x y z = ltb x p || (eqb x p && (ltb y a || (eqb y a && ltb z q)))

pub before_self : (p a q : ℕ) → before p a q p a q ≡ false
before_self p a q = grind (arith, nat_tests)

pub before-first : (x y z : ℕ) → before 0 0 0 x y z ≡ false
before-first x y z = grind (arith, nat_tests)

-- one arrow more
pub before-next : (p a q x y z : ℕ) → before p a (suc q) x y z ≡ (eqb x p && eqb y a && eqb z q || before p a q x y z)
before-next p a q x y z = grind (arith, nat_tests)

-- past the last to-state comes the next letter
pub before-letter : (n p a x y z : ℕ) → z < n → before p a n x y z ≡ before p (suc a) 0 x y z
before-letter n p a x y z h = grind (arith, nat_tests)

-- past the last letter comes the next from-state
pub before_state : (n p x y z : ℕ) → y < n → before p n 0 x y z ≡ before (suc p) 0 0 x y z
before_state n p x y z h = grind (arith, nat_tests)

pub before_last : (n x y z : ℕ) → x < n → before n 0 0 x y z ≡ true
before_last n x y z h = grind (arith, nat_tests)
