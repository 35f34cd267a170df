-- What the fields of an automaton stand for.
use Rattle.std.specs.Prelude.{◌≡◌, ℕ, List, map, take, Some, None, Ok, Err, Result}
use Rattle.automata.specs.declared.faults.SignFault.{SignFault}
use Rattle.automata.specs.declared.signs.Signs.{Signs}
use Rattle.automata.specs.declared.row.Row.{Row}
use Rattle.automata.specs.declared.automaton.Automaton.{Automaton}
use Rattle.automata.specs.Signs.{sign_fault}
use Rattle.automata.specs.Sets.{has}
use Rattle.automata.specs.Held.{ends_of}
use Rattle.automata.specs.Drafts.{DraftModel}

abbrev pub sign_bytes : Signs → List ℕ
sign_bytes s = take s.count s.bytes

-- what making a sign list of xs gives
abbrev pub SignsMade : List ℕ → Result Signs SignFault → Type 0
SignsMade xs (Ok s) = (sign_fault xs ≡ None) × (sign_bytes s ≡ xs)
SignsMade xs (Err e) = sign_fault xs ≡ Some e

-- the codes in rows
abbrev pub codes_of : List Row → List ℕ
codes_of rows = map (λ (r : Row). r.code) rows

abbrev pub shown : Automaton → DraftModel
shown d = record {
  signs = sign_bytes d.signs;
  values = codes_of (take d.count d.rows);
  entry = has d.entry_set;
  arrow = λ p a q. has (ends_of d.rows p a) q;
}
