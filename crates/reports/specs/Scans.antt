-- What is printed of an entry that is read through a table.
use Rattle.std.specs.Prelude.{◌≡◌, ℕ, List, [], ◌∷◌, ◌++◌, Ok, Err, decimal, Result}
use Rattle.std.specs.Borrow.{Bor}
use Rattle.kinds.specs.Kinds.{KindModel}
use Rattle.tables.specs.declared.grid.Grid.{Grid}
use Rattle.lookup.specs.declared.faults.ValueFault.{ValueFault}
use Rattle.lookup.specs.declared.faults.ValueFault.TheVariants.{NoSign}
use Rattle.lookup.specs.declared.faults.LongestFault.{LongestFault}
use Rattle.lookup.specs.Lookups.{Valued, Longest}
use Rattle.texts.specs.Grammar.{line_of}

-- V, the value and -
abbrev pub code_text : ℕ → List ℕ
code_text v = line_of ((86 ∷ []) ∷ decimal v ∷ (45 ∷ []) ∷ [])

-- X, 12 and the place of the first byte that is no sign
abbrev pub no_sign_text : ℕ → List ℕ
no_sign_text k = line_of ((88 ∷ []) ∷ (49 ∷ 50 ∷ []) ∷ decimal k ∷ [])

abbrev pub value_text : Result ℕ ValueFault → List ℕ
value_text (Ok v) = code_text v
value_text (Err (NoSign k)) = no_sign_text k

-- L, the part and its value
abbrev pub part_text : List ℕ → ℕ → List ℕ
part_text part v = line_of ((76 ∷ []) ∷ part ∷ decimal v ∷ [])

-- the same, or X, 13 and -
abbrev pub longest_text : Result (Bor (List ℕ) × ℕ) LongestFault → List ℕ
longest_text (Ok p) = part_text p.0.now p.1
longest_text (Err e) = line_of ((88 ∷ []) ∷ (49 ∷ 51 ∷ []) ∷ (45 ∷ []) ∷ [])

-- the line of an entry
pub record ScanLine (K : KindModel) (t : Grid) (entry : Bor (List ℕ)) (line : List ℕ) : Type 0 where
  pub value : Result ℕ ValueFault
  pub valued : Valued K t entry.now value
  pub front : Result (Bor (List ℕ) × ℕ) LongestFault
  pub longest : Longest K t entry front
  pub prints : line ≡ value_text value ++ (9 ∷ (longest_text front ++ 10 ∷ []))

abbrev pub ScanAdds : {U E : Type 0} → KindModel → Grid → Bor (List ℕ) → List ℕ → List ℕ → Result U E → Type 0
ScanAdds K t entry before after (Ok u) = (line : List ℕ) × ScanLine K t entry line × (after ≡ before ++ line)
ScanAdds K t entry before after (Err e) = Unit {0}
