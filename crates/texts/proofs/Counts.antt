-- How many fields there are, by the first cut.
use Rattle.std.proofs.Common.{◌≡◌, ℕ, List, ◌∷◌, length, Some, None, Option, refl, ap, arith, Bor}
use Rattle.std.specs.Option.{ok_or}
use Rattle.std.specs.Result.{MatchResult}
use Rattle.fields.specs.Pieces.{pieces, CutAt, Cuts}
use Rattle.texts.specs.declared.faults.LineFault.TheVariants.{FieldCount}
use Rattle.fields.proofs.Separated.{pieces-one, pieces-some, cut_pieces}

-- a cut gives the first field, and the others lie behind it; where there is none, there is one field
pub next_told : (text : Bor (List ℕ)) (o : Option (Bor (List ℕ) × Bor (List ℕ))) → Cuts 9 text o
    → MatchResult (ok_or o FieldCount) (λ p. pieces 9 text.now ≡ p.0.now ∷ pieces 9 p.1.now) (λ e. (e ≡ FieldCount) × (length (pieces 9 text.now) ≡ 1))
next_told text None h = (refl, ap length (pieces-one 9 text.now h))
next_told text (Some p) h = cut_pieces h

pub not-one : {text before after : Bor (List ℕ)} → CutAt 9 text before after → length (pieces 9 text.now) ≡ 1 → ⊥
not-one {text} {before} {after} h e = let k = ap length (cut_pieces h) in let s = pieces-some 9 after.now in omega arith
