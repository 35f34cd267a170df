-- Where a sign stands in a list of signs.
use Rattle.std.proofs.Common.{◌≡◌, ℕ, zero, suc, ◌<◌, ◌≤◌, true, false, cond, eqb, ltb, ◌⊎◌, List, [], ◌∷◌, length, get_or, Some, None, Option, refl, ap, inl, inr, arith}
use Rattle.std.proofs.lemmas.Bool.{eqb-true, eqb-false, eq-eqb, ltb-true, ltb-false, lt-ltb, le-ltb, and_from, and_right, cond_both, cases_order}
use Rattle.std.specs.List.{position, position_or_len}
use Rattle.std.specs.Option.{MatchOption}
use Rattle.std.proofs.lemmas.List.Recursion.{is_position_or_len}
use Rattle.fields.specs.Pieces.{Free}
use Rattle.automata.specs.Signs.{sign_fault}
use Rattle.automata.proofs.SignLaws.{accepted-parts, visible_from, apart_from}
use Rattle.texts.specs.Reading.{place_of, letter_in, listed}

pub place-most : (b : ℕ) (signs : List ℕ) → place_of b signs ≤ length signs
place-most b [] = omega arith
place-most b (x ∷ xs) =
    cond_both (eqb x b) 0 (suc (place_of b xs)) (λ p. p ≤ suc (length xs)) (λ e. omega arith) (λ e. omega (arith, place-most b xs))

-- b stands at no earlier place
pub place-first : (b : ℕ) (signs : List ℕ) (k : ℕ) → k < place_of b signs → get_or signs k 0 ≡ b → ⊥
place-first b [] k h e = omega arith
place-first b (x ∷ xs) zero h e =
    cond_both (eqb x b) 0 (suc (place_of b xs)) (λ p. 0 < p → ⊥) (λ _ l. omega arith) (λ n _. eqb-false x b n e) h
place-first b (x ∷ xs) (suc k) h e =
    cond_both (eqb x b) 0 (suc (place_of b xs)) (λ p. suc k < p → ⊥) (λ _ l. omega arith) (λ _ l. place-first b xs k (omega arith) e) h

-- a place within the list holds b
pub place-holds : (b : ℕ) (signs : List ℕ) → place_of b signs < length signs → get_or signs (place_of b signs) 0 ≡ b
place-holds b [] h = absurd (omega arith)
place-holds b (x ∷ xs) h =
    cond_both (eqb x b) 0 (suc (place_of b xs)) (λ p. p < suc (length xs) → get_or (x ∷ xs) p 0 ≡ b)
    (λ e _. eqb-true x b e) (λ _ l. place-holds b xs (omega arith)) h

-- the first place that holds b is its place
pub place_is : (b : ℕ) (signs : List ℕ) (a : ℕ) → a < length signs → get_or signs a 0 ≡ b
    → ((k : ℕ) → k < a → get_or signs k 0 ≡ b → ⊥) → place_of b signs ≡ a
place_is b signs a h e before = go (cases_order (place_of b signs) a)
  where
    go : (place_of b signs ≡ a) ⊎ ((place_of b signs < a) ⊎ (a < place_of b signs)) → place_of b signs ≡ a
    go (inl q) = q
    go (inr (inl l)) = absurd (before (place_of b signs) l (place-holds b signs (omega arith)))
    go (inr (inr l)) = absurd (place-first b signs a l e)

-- what the position of b in the list says of its place
pub place_told : (b : ℕ) (signs : List ℕ) (r : Option ℕ) → r ≡ position (λ s. eqb s b) signs
    → MatchOption r (place_of b signs ≡ length signs) (λ i. (place_of b signs ≡ i) × (i < length signs))
place_told b signs r e =
    let same : place_of b signs ≡ position_or_len (λ s. eqb s b) signs = is_position_or_len (place_of b) (λ s. eqb s b) refl (λ x xs. ap (λ (n : ℕ). cond (eqb x b) 0 n) (omega arith)) signs in
    rw e (cond_both (ltb (position_or_len (λ s. eqb s b) signs) (length signs)) _ _ (λ r. MatchOption r (place_of b signs ≡ length signs) (λ i. (place_of b signs ≡ i) × (i < length signs)))
    (λ t. (same, ltb-true _ _ t)) (λ f. omega (arith, same, place-most b signs, ltb-false _ _ f)))

-- and what it says of the letter that a field of one byte names
pub letter_told : (signs f : List ℕ) (r : Option ℕ) → length f ≡ 1 → MatchOption r (letter_in signs f ≡ length signs) (λ i. (letter_in signs f ≡ i) × (i < length signs))
    → MatchOption r (listed signs f ≡ false) (λ i. (listed signs f ≡ true) × (letter_in signs f ≡ i))
letter_told signs f None one h = and_right (eqb (length f) 1) (ltb (letter_in signs f) (length signs)) (le-ltb (letter_in signs f) (length signs) (omega arith))
letter_told signs f (Some i) one h =
    (and_from (eqb (length f) 1) (ltb (letter_in signs f) (length signs)) (eq-eqb (length f) 1 one) (lt-ltb (letter_in signs f) (length signs) (omega arith)), h.0)

-- ---- acceptable signs

module _ (signs : List ℕ) (ok : sign_fault signs ≡ None) where
  -- the letter of a letter's sign is that letter
  pub place_of_sign : (a : ℕ) → a < length signs → place_of (get_or signs a 0) signs ≡ a
  place_of_sign a h =
      place_is (get_or signs a 0) signs a h refl (λ k l e. apart_from signs (accepted-parts signs ok).1 a h k l e)

  pub sign_visible : (k : ℕ) → k < length signs → (33 ≤ get_or signs k 0) × (get_or signs k 0 ≤ 126)
  sign_visible = visible_from signs (accepted-parts signs ok).1

  -- no byte below 33 is a sign
  pub signs-free : (b : ℕ) → b < 33 → Free b signs
  signs-free b h k l e = omega (arith, sign_visible k l)
