-- What the fields of every automaton keep: nothing lies past the counts.
use Rattle.std.specs.Prelude.{◌≡◌, ℕ, ◌<◌, ◌≤◌, true, List, [], length, replicate, slice_index, slice_index_or, refl}
use Rattle.std.proofs.Common.{lit<}
use Rattle.automata.specs.declared.sets.StateSet.{StateSet}
use Rattle.automata.specs.declared.row.Row.{Row}
use Rattle.automata.specs.Sets.{has, no_states}

-- each is a byte
abbrev pub Bytes : List ℕ → Type 0
Bytes xs = (k : ℕ) → slice_index xs k < 256

-- each row has m places
abbrev pub RowsOf : ℕ → List (List ℕ) → Type 0
RowsOf m rows = (p : ℕ) → p < length rows → length (slice_index_or rows p []) ≡ m

-- the members are below n
abbrev pub Within : StateSet → ℕ → Type 0
Within s n = (p : ℕ) → has s p ≡ true → p < n

-- the row of a state that has the code 0 and no arrow
abbrev pub blank_row : Row
blank_row = record { code = 0; ends = replicate 16 no_states; byte = lit< tt; wide = refl }

-- the row of the state p, and the ends of the arrows from p by the letter a
abbrev pub row_of : List Row → ℕ → Row
row_of rows p = slice_index_or rows p blank_row

abbrev pub ends_of : List Row → ℕ → ℕ → StateSet
ends_of rows p a = slice_index_or (row_of rows p).ends a no_states

-- the code in each row past the first n is 0
abbrev pub CodesPast : List Row → ℕ → Type 0
CodesPast rows n = (p : ℕ) → n ≤ p → (row_of rows p).code ≡ 0

-- arrows go from states below n, by letters below m, to states below n
abbrev pub Linked : List Row → ℕ → ℕ → Type 0
Linked rows n m = (p a q : ℕ) → has (ends_of rows p a) q ≡ true → (p < n) × (a < m) × (q < n)
