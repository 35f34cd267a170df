-- Sign lists: the bytes that stand for the letters of an automaton.
use Rattle.std.specs.Prelude.{◌≡◌, ℕ, ◌<◌, ◌≤◌, Bool, not, ◌&&◌, List, [], ◌∷◌, length, Option, ◌==◌, ◌≢◌, nat_le, slice_index}
use Rattle.automata.specs.declared.faults.SignFault.{SignFault}
use Rattle.automata.specs.declared.faults.SignFault.TheVariants.{Count, Byte}
use Rattle.automata.specs.Tests.{every, first_no}

abbrev pub sign_fault_number : SignFault → ℕ
sign_fault_number Count = 1
sign_fault_number Byte = 2

-- from 1 to 16 signs
abbrev pub counted : List ℕ → Bool
counted xs = nat_le 1 (length xs) && nat_le (length xs) 16

-- a byte from 33 to 126
abbrev pub visible : ℕ → Bool
visible b = nat_le 33 b && nat_le b 126

-- the sign at k stands at no earlier place
abbrev pub first_at : List ℕ → ℕ → Bool
first_at xs k = every k (λ j. not (slice_index xs j == slice_index xs k))

-- each sign is visible and stands once
abbrev pub distinct : List ℕ → Bool
distinct xs = every (length xs) (λ k. visible (slice_index xs k) && first_at xs k)

-- which rule a sign list breaks first
abbrev pub sign_fault : List ℕ → Option SignFault
sign_fault xs = first_no ((counted xs, Count) ∷ (distinct xs, Byte) ∷ [])

-- The same as facts of the first n bytes.
abbrev pub Visible : List ℕ → ℕ → Type 0
Visible xs n = (k : ℕ) → k < n → (33 ≤ slice_index xs k) × (slice_index xs k ≤ 126)

abbrev pub Apart : List ℕ → ℕ → Type 0
Apart xs n = (k : ℕ) → k < n → (j : ℕ) → j < k → slice_index xs j ≢ slice_index xs k

-- nothing lies past the first n places
abbrev pub BlankPast : List ℕ → ℕ → Type 0
BlankPast xs n = (k : ℕ) → n ≤ k → slice_index xs k ≡ 0
