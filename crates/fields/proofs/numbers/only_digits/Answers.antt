use Rattle.std.proofs.Common.{◌≡◌, ℕ, ◌&&◌, Bool, List, [], ◌∷◌, refl, ap, ◌∙◌, rules}
use Rattle.std.specs.Char.{is_ascii_digit}
use Rattle.std.specs.List.{list_all}
use Rattle.std.specs.Str.{all_ascii_digits}
use Rattle.std.proofs.lemmas.Iterator.{YieldsList-from_slice}
use Rattle.std.proofs.lemmas.Iterator.Search.{all_from_yields_List}
use Rattle.fields.proofs.numbers.only_digits.Goals as goal

same_test : (xs : List ℕ) → list_all is_ascii_digit xs ≡ all_ascii_digits xs
same_test [] = refl
same_test (x ∷ xs) = ap (λ (t : Bool). is_ascii_digit x && t) (same_test xs)

pub returns : goal.returns
returns c =
    all_from_yields_List is_ascii_digit _ _ _ c.all.ensures.ran (YieldsList-from_slice c.args.field.now cc) (λ x r q k. search rules)
    ∙ same_test c.args.field.now
