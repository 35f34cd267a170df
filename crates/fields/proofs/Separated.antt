-- The laws of pieces between separators.
use Rattle.std.proofs.Common.{◌≡◌, ℕ, zero, suc, ◌+◌, ◌<◌, eqb, List, [], ◌∷◌, ◌++◌, length, sym, refl, ap, ◌∙◌, append-nil, arith, length-append, Bor}
use Rattle.std.proofs.lemmas.Bool.{eqb-true, eqb-false, eq-eqb, ne_eqb, cond-true, cond-false, cond_both}
use Rattle.fields.specs.Pieces.{onto, pieces, behind, join_with, ended, Free, AllFree, CutAt, PieceLaws}

-- ---- where b stands

pub free_nil : (b : ℕ) → Free b []
free_nil b k h e = omega arith

pub free_head : (b x : ℕ) (xs : List ℕ) → Free b (x ∷ xs) → x ≡ b → ⊥
free_head b x xs f e = f 0 (omega arith) e

pub free-rest : (b x : ℕ) (xs : List ℕ) → Free b (x ∷ xs) → Free b xs
free-rest b x xs f k h e = f (suc k) (omega arith) e

pub free_cons : (b x : ℕ) (xs : List ℕ) → (x ≡ b → ⊥) → Free b xs → Free b (x ∷ xs)
free_cons b x xs n f zero h e = n e
free_cons b x xs n f (suc k) h e = f k (omega arith) e

pub free-append : (b : ℕ) (xs ys : List ℕ) → Free b xs → Free b ys → Free b (xs ++ ys)
free-append b [] ys f g = g
free-append b (x ∷ xs) ys f g = free_cons b x (xs ++ ys) (free_head b x xs f) (free-append b xs ys (free-rest b x xs f) g)

-- ---- a piece in front

pub pieces_cut : (b : ℕ) (p q : List ℕ) → Free b p → pieces b (p ++ (b ∷ q)) ≡ p ∷ pieces b q
pieces_cut b [] q f = cond-true (eqb b b) ([] ∷ pieces b q) (onto b (pieces b q)) (eq-eqb b b refl)
pieces_cut b (x ∷ p) q f =
    cond-false (eqb x b) ([] ∷ pieces b (p ++ (b ∷ q))) (onto x (pieces b (p ++ (b ∷ q)))) (ne_eqb x b (free_head b x p f))
    ∙ ap (onto x) (pieces_cut b p q (free-rest b x p f))

pub pieces-one : (b : ℕ) (p : List ℕ) → Free b p → pieces b p ≡ p ∷ []
pieces-one b [] f = refl
pieces-one b (x ∷ p) f =
    cond-false (eqb x b) ([] ∷ pieces b p) (onto x (pieces b p)) (ne_eqb x b (free_head b x p f))
    ∙ ap (onto x) (pieces-one b p (free-rest b x p f))

-- ---- what a cut says of the whole

module _ {b : ℕ} {text before after : Bor (List ℕ)} (c : CutAt b text before after) where
  pub cut_pieces : pieces b text.now ≡ before.now ∷ pieces b after.now
  cut_pieces = ap (pieces b) c.whole ∙ pieces_cut b before.now after.now c.first

  pub cut_length : length text.now ≡ length before.now + (length after.now + 1)
  cut_length = ap length c.whole ∙ (length-append before.now (b ∷ after.now) ∙ omega arith)

-- ---- the laws

pub pieces-some : (b : ℕ) (xs : List ℕ) → 0 < length (pieces b xs)
pieces-some b [] = omega arith
pieces-some b (x ∷ xs) =
    cond_both (eqb x b) ([] ∷ pieces b xs) (onto x (pieces b xs)) (λ ps. 0 < length ps) (λ e. omega arith) (λ e. onto-some x (pieces b xs))
  where
    onto-some : (x : ℕ) (ps : List (List ℕ)) → 0 < length (onto x ps)
    onto-some x [] = omega arith
    onto-some x (p ∷ ps) = omega arith

joined_onto : (b x : ℕ) (ps : List (List ℕ)) → join_with b (onto x ps) ≡ x ∷ join_with b ps
joined_onto b x [] = refl
joined_onto b x (p ∷ ps) = refl

-- what stands behind the first piece begins with b
pub behind_joined : (b : ℕ) (ps : List (List ℕ)) → 0 < length ps → behind b ps ≡ b ∷ join_with b ps
behind_joined b [] h = absurd (omega arith)
behind_joined b (p ∷ ps) h = refl

pub rejoined : (b : ℕ) (xs : List ℕ) → join_with b (pieces b xs) ≡ xs
rejoined b [] = refl
rejoined b (x ∷ xs) =
    cond_both (eqb x b) ([] ∷ pieces b xs) (onto x (pieces b xs)) (λ ps. join_with b ps ≡ x ∷ xs)
    (λ e. behind_joined b (pieces b xs) (pieces-some b xs) ∙ (ap (λ (y : ℕ). y ∷ join_with b (pieces b xs)) (sym (eqb-true x b e)) ∙ ap (λ (ys : List ℕ). x ∷ ys) (rejoined b xs)))
    (λ e. joined_onto b x (pieces b xs) ∙ ap (λ (ys : List ℕ). x ∷ ys) (rejoined b xs))

free-onto : (b x : ℕ) (ps : List (List ℕ)) → (x ≡ b → ⊥) → AllFree b ps → AllFree b (onto x ps)
free-onto b x [] n f = (free_cons b x [] n (free_nil b), tt)
free-onto b x (p ∷ ps) n f = (free_cons b x p n f.0, f.1)

pub pieces-free : (b : ℕ) (xs : List ℕ) → AllFree b (pieces b xs)
pieces-free b [] = (free_nil b, tt)
pieces-free b (x ∷ xs) =
    cond_both (eqb x b) ([] ∷ pieces b xs) (onto x (pieces b xs)) (AllFree b)
    (λ e. (free_nil b, pieces-free b xs))
    (λ e. free-onto b x (pieces b xs) (eqb-false x b e) (pieces-free b xs))

pub pieces_joined : (b : ℕ) (p : List ℕ) (ps : List (List ℕ)) → AllFree b (p ∷ ps) → pieces b (join_with b (p ∷ ps)) ≡ p ∷ ps
pieces_joined b p [] f = ap (pieces b) (append-nil p) ∙ pieces-one b p f.0
pieces_joined b p (q ∷ ps) f = pieces_cut b p (q ++ behind b ps) f.0 ∙ ap (λ (qs : List (List ℕ)). p ∷ qs) (pieces_joined b q ps f.1)

pub pieces-ended : (b : ℕ) (ps : List (List ℕ)) → AllFree b ps → pieces b (ended b ps) ≡ ps ++ ([] ∷ [])
pieces-ended b [] f = refl
pieces-ended b (p ∷ ps) f = pieces_cut b p (ended b ps) f.0 ∙ ap (λ (qs : List (List ℕ)). p ∷ qs) (pieces-ended b ps f.1)

pub piece_laws : PieceLaws
piece_laws = record { rejoined = rejoined; free = pieces-free; only = pieces_joined; ends = pieces-ended }
