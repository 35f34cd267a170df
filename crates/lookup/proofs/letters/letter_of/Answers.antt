use Rattle.std.proofs.Common.{◌≡◌, ℕ, eqb, ltb, List, length, Some, None, Option, sym, ◌∙◌, subst, inl, inr, arith, rules}
use Rattle.std.specs.List.{position, position_or_len}
use Rattle.std.proofs.lemmas.Bool.{cases_lt, lt-ltb, cond-true, eqb-true, eq-eqb, both_ways}
use Rattle.std.proofs.lemmas.List.Quantifiers.{position-Some}
use Rattle.std.proofs.lemmas.List.Sums.{fails_before_first}
use Rattle.automata.specs.Shown.{sign_bytes}
use Rattle.lookup.specs.Lookups.{LetterOf}
use Rattle.lookup.proofs.letters.letter_of.Goals as goal

letter_is : (signs : List ℕ) (byte : ℕ) (r : Option ℕ) → r ≡ position (λ s. eqb s byte) signs → LetterOf signs byte r
letter_is signs byte (Some a) e = let h = position-Some (λ s. eqb s byte) signs a 0 (sym e) in (h.0, eqb-true _ _ h.1)
letter_is signs byte None e = λ a l h.
    let i = position_or_len (λ s. eqb s byte) signs in
    elim (cases_lt i (length signs)) [
      | inl lt ↦ (let z : None ≡ Some i = e ∙ cond-true (ltb i (length signs)) (Some i) None (lt-ltb i (length signs) lt) in cc)
      | inr ge ↦ both_ways _ (fails_before_first (λ s. eqb s byte) signs a 0 (omega arith)) (eq-eqb _ _ h)
    ]

pub returns : goal.returns
returns c =
    let signs = sign_bytes c.args.signs.now in
    -- that the answer is what `letter` found is left to the search, so that it may come by another call
    subst (LetterOf signs c.args.byte) {x = c.letter.result} (search rules) (letter_is signs c.args.byte c.letter.result c.letter.ensures)
