-- Sets of the states that pass a test.
use Rattle.std.specs.Prelude.{◌≡◌, ℕ, zero, suc, ◌+◌, ◌*◌, ◌^◌, ◌<◌, Bool, true, false, cond, ◌&&◌, nat_lt}
use Rattle.std.proofs.Common.{ap, pow-suc, arith}
use Rattle.automata.proofs.SetLaws.{set_bits}
use Rattle.automata.specs.declared.sets.StateSet.{StateSet}
use Rattle.views.specs.declared.states.Reached.{Reached}

-- the number whose n lowest bits say of which numbers below n the test f is true
abbrev pub bits_of : ℕ → (ℕ → Bool) → ℕ
bits_of zero f = 0
bits_of (suc n) f = cond (f 0) 1 0 + 2 * bits_of n (λ q. f (suc q))

pub bits_small : (n : ℕ) (f : ℕ → Bool) → bits_of n f < 2 ^ n
bits_small zero f = omega arith
bits_small (suc n) f =
    let rest = bits_small n (λ q. f (suc q)) in
    elim (f 0) as (λ b. cond b 1 0 + 2 * bits_of n (λ q. f (suc q)) < 2 ^ suc n) [
      | true ↦ omega (arith, rest, pow-suc 2 n)
      | false ↦ omega (arith, rest, pow-suc 2 n)
    ]

-- the set of the numbers below n of which f is true; a set has only numbers below 32
unfoldable pub those : ℕ → (ℕ → Bool) → StateSet
those n f = record { bits = bits_of 32 (λ q. nat_lt q n && f q); small = bits_small 32 (λ q. nat_lt q n && f q) }

abbrev pub reached_set : StateSet → Reached
reached_set s = record { set = s }

-- two sets with the same members have the same bits
pub same_reached : (x y : Reached) → x.set.bits ≡ y.set.bits → x ≡ y
same_reached x y e = ap reached_set (set_bits x.set y.set e)
