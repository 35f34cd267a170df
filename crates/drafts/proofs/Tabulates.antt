-- Lists of the first values of a function.
use Rattle.std.proofs.Common.{◌≡◌, ℕ, zero, suc, ◌+◌, ◌<◌, ◌≤◌, List, [], ◌∷◌, ◌++◌, length, get_or, sym, refl, ap, ◌∙◌, add-one, arith, ext_get_or}
use Rattle.std.proofs.lemmas.List.{get_or_past}
use Rattle.drafts.specs.Words.{tabulate}

pub length-tabulate : {A : Type 0} (m : ℕ) (f : ℕ → A) → length (tabulate m f) ≡ m
length-tabulate zero f = refl
length-tabulate (suc m) f = ap suc (length-tabulate m (λ i. f (suc i)))

pub get_d_tabulate : {A : Type 0} (m : ℕ) (f : ℕ → A) (i : ℕ) (d : A) → i < m → get_or (tabulate m f) i d ≡ f i
get_d_tabulate zero f i d h = let z : ⊥ = omega arith in absurd z
get_d_tabulate (suc m) f zero d h = refl
get_d_tabulate (suc m) f (suc i) d h = get_d_tabulate m (λ k. f (suc k)) i d (omega arith)

pub get_or_tabulate_past : {A : Type 0} (m : ℕ) (f : ℕ → A) (i : ℕ) (d : A) → m ≤ i → get_or (tabulate m f) i d ≡ d
get_or_tabulate_past m f i d h = get_or_past (tabulate m f) i d (rw length-tabulate h)

-- a list that has the values of f
pub is_tabulate : {A : Type 0} (d : A) (m : ℕ) (f : ℕ → A) (xs : List A) → length xs ≡ m → ((i : ℕ) → i < m → get_or xs i d ≡ f i) → xs ≡ tabulate m f
is_tabulate d m f xs l h =
    ext_get_or d xs (tabulate m f) (l ∙ sym (length-tabulate m f)) (λ i k. let k' : i < m = rw l at k in h i k' ∙ sym (get_d_tabulate m f i d k'))

-- for loops: one more value
pub tabulate-more : {A : Type 0} (m : ℕ) (f : ℕ → A) → tabulate (m + 1) f ≡ tabulate m f ++ f m ∷ []
tabulate-more m f = ap (λ k. tabulate k f) (add-one m) ∙ go m f
  where
    go : {A : Type 0} (m : ℕ) (f : ℕ → A) → tabulate (suc m) f ≡ tabulate m f ++ f m ∷ []
    go zero f = refl
    go (suc m) f = ap (λ l. f 0 ∷ l) (go m (λ i. f (suc i)))
