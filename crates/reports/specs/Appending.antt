-- Text added at the end of a text.
use Rattle.std.specs.Prelude.{◌≡◌, ℕ, List, ◌++◌, Ok, Err, Result}

-- t stands behind what was there, where there was memory for it
abbrev pub Adds : {U E : Type 0} → List ℕ → List ℕ → List ℕ → Result U E → Type 0
Adds before after t (Ok u) = after ≡ before ++ t
Adds before after t (Err e) = Unit {0}
