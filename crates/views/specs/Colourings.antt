-- Colourings: a code for each of 128 places.
use Rattle.std.specs.Prelude.{ℕ, cond, replicate, nat_lt}
use Rattle.kinds.specs.Kinds.{KindModel}
use Rattle.drafts.specs.Words.{tabulate}
use Rattle.views.specs.declared.colouring.Colouring.{Colouring}

-- one code in every place
abbrev pub plain : ℕ → Colouring
plain code = record { codes = replicate 128 code }

-- the codes f in the places below n, and none in the others
unfoldable pub coloured : KindModel → ℕ → (ℕ → ℕ) → Colouring
coloured K n f = record { codes = tabulate 128 (λ p. cond (nat_lt p n) (f p) K.none) }
