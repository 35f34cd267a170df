-- A list filled by calls that all give one value.
use Rattle.std.proofs.Common.{◌≡◌, List, [], ◌∷◌, length, replicate, refl, ap₂}
use Rattle.std.specs.List.{FoldsTo}

pub filled : {P A : Type 0} (R : P → A → P → Type 0) (p q : P) (xs : List A) (b : A) → FoldsTo R p xs q → ((s : P) (x : A) (t : P) → R s x t → x ≡ b) → xs ≡ replicate (length xs) b
filled R p q [] b e h = refl
filled R p q (x ∷ xs) b e h = ap₂ (λ y ys. y ∷ ys) (h p x e.0 e.1) (filled R e.0 q xs b e.2 h)
