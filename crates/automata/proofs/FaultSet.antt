-- Answers on a list of signs are equal in at most one way.
use Rattle.std.proofs.Common.{◌≡◌, ℕ, zero, suc, Some, None, Option, sym, refl, ap, ◌∙◌}
use mathlib.Core.HLevel.{Discrete, hedberg}
use native.Mathlib.Decide.{ℕ_discrete}
use Rattle.automata.specs.declared.faults.SignFault.{SignFault}
use Rattle.automata.specs.declared.faults.SignFault.TheVariants.{Count, Byte}

abbrev number : Option SignFault → ℕ
number None = 0
number (Some Count) = 1
number (Some Byte) = 2

abbrev fault : ℕ → Option SignFault
fault zero = None
fault (suc zero) = Some Count
fault (suc (suc n)) = Some Byte

fault-number : (x : Option SignFault) → fault (number x) ≡ x
fault-number None = refl
fault-number (Some Count) = refl
fault-number (Some Byte) = refl

fault_discrete : Discrete (Option SignFault)
fault_discrete x y = go (ℕ_discrete (number x) (number y))
  where
    go : Dec (number x ≡ number y) → Dec (x ≡ y)
    go (yes e) = yes (sym (fault-number x) ∙ (ap fault e ∙ fault-number y))
    go (no n) = no (λ e. n (ap number e))

pub fault-set : (x y : Option SignFault) (p q : x ≡ y) → p ≡ q
fault-set = hedberg fault_discrete
