-- A test that is true of some number below a bound.
use Rattle.std.proofs.Common.{◌≡◌, ℕ, ◌<◌, Bool, true, Decides, refl}
use Rattle.std.proofs.lemmas.Bool.Decides.{Decides-below_or}
use Rattle.automata.specs.Tests.{some}

decides_some : (m : ℕ) (f : ℕ → Bool) → Decides (some m f) ((p : ℕ) × (p < m) × (f p ≡ true))
decides_some m f = Decides-below_or f (λ p. f p ≡ true) (λ n. some n f) (λ p. (λ h. h, λ h. h)) refl (λ _. refl) m

pub some-true : (m : ℕ) (f : ℕ → Bool) (p : ℕ) → p < m → f p ≡ true → some m f ≡ true
some-true m f p l h = (decides_some m f).1 (p, l, h)

pub true-some : (m : ℕ) (f : ℕ → Bool) → some m f ≡ true → (p : ℕ) × (p < m) × (f p ≡ true)
true-some m f h = (decides_some m f).0 h
