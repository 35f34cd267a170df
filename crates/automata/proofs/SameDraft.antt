-- When two drafts are equal.
use Rattle.std.proofs.Common.{◌≡◌, ℕ}
use Rattle.automata.specs.Drafts.{DraftModel}

-- drafts with equal parts are equal
pub same-draft : (d e : DraftModel) → d.signs ≡ e.signs → d.values ≡ e.values → ((p : ℕ) → d.entry p ≡ e.entry p)
    → ((p a q : ℕ) → d.arrow p a q ≡ e.arrow p a q) → d ≡ e
same-draft d e s v n r = λ i. record { signs = s i; values = v i; entry = λ p. n p i; arrow = λ p a q. r p a q i }
