use Rattle.std.proofs.Common.{◌≡◌, ℕ}
use Rattle.views.specs.Colourings.{coloured}
use Rattle.views.proofs.ColouredLaws.{made}
use Rattle.views.proofs.colouring.Colouring.of.Given as goal

-- the places so far have their codes
abbrev pub invariant-loop-p : goal.invariant-loop-p
invariant-loop-p g l = (f : ℕ → ℕ) → ((p r : ℕ) → g.F.Fn.post l.code (p, tt) r → r ≡ f p) → made l.codes ≡ coloured g.K.Kind.model l.p f
