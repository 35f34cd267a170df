-- Tests of all numbers below a bound, and questions that are asked in their order.
use Rattle.std.specs.Prelude.{ℕ, zero, suc, Bool, true, false, cond, ◌&&◌, ◌||◌, List, [], ◌∷◌, Some, None, Option}

-- f is true of each number below n
abbrev pub every : ℕ → (ℕ → Bool) → Bool
every zero f = true
every (suc n) f = f n && every n f

-- f is true of some number below n
abbrev pub some : ℕ → (ℕ → Bool) → Bool
some zero f = false
some (suc n) f = f n || some n f

-- A question with the fault of a no: the fault of the first question whose answer is no.
abbrev pub first_no : {E : Type 0} → List (Bool × E) → Option E
first_no [] = None
first_no (q ∷ qs) = cond q.0 (first_no qs) (Some q.1)
