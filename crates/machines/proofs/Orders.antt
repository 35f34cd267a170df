-- The order of words: shorter ones sooner, words of one length in letter order.
use Rattle.std.proofs.Common.{◌≡◌, ℕ, ◌+◌, ◌<◌, ◌⊎◌, List, [], ◌∷◌, ◌++◌, sym, refl, ap, ◌∙◌, subst, inl, inr, arith}
use Rattle.std.proofs.lemmas.List.{length_push}
use Rattle.machines.specs.Built.{Lex, Sooner}

lex_irrefl : (u : List ℕ) → Lex u u → ⊥
lex_irrefl [] h = h
lex_irrefl (a ∷ u) (inl l) = omega arith
lex_irrefl (a ∷ u) (inr r) = lex_irrefl u r.1

lex_trans : (u v w : List ℕ) → Lex u v → Lex v w → Lex u w
lex_trans [] v w h k = absurd h
lex_trans (a ∷ u) [] w h k = absurd h
lex_trans (a ∷ u) (b ∷ v) [] h k = absurd k
lex_trans (a ∷ u) (b ∷ v) (c ∷ w) (inl h) (inl k) = inl (omega arith)
lex_trans (a ∷ u) (b ∷ v) (c ∷ w) (inl h) (inr k) = inl (omega (arith, k.0))
lex_trans (a ∷ u) (b ∷ v) (c ∷ w) (inr h) (inl k) = inl (omega (arith, h.0))
lex_trans (a ∷ u) (b ∷ v) (c ∷ w) (inr h) (inr k) = inr (h.0 ∙ k.0, lex_trans u v w h.1 k.1)

lex_push : (u v : List ℕ) (a b : ℕ) → Lex u v → Lex (u ++ a ∷ []) (v ++ b ∷ [])
lex_push [] v a b h = absurd h
lex_push (x ∷ u) [] a b h = absurd h
lex_push (x ∷ u) (y ∷ v) a b (inl h) = inl h
lex_push (x ∷ u) (y ∷ v) a b (inr h) = inr (h.0, lex_push u v a b h.1)

lex_final : (u : List ℕ) (a b : ℕ) → a < b → Lex (u ++ a ∷ []) (u ++ b ∷ [])
lex_final [] a b h = inl h
lex_final (x ∷ u) a b h = inr (refl, lex_final u a b h)

pub sooner_irrefl : (u : List ℕ) → Sooner u u → ⊥
sooner_irrefl u (inl l) = omega arith
sooner_irrefl u (inr r) = lex_irrefl u r.1

pub sooner_trans : (u v w : List ℕ) → Sooner u v → Sooner v w → Sooner u w
sooner_trans u v w (inl h) (inl k) = inl (omega arith)
sooner_trans u v w (inl h) (inr k) = inl (omega (arith, k.0))
sooner_trans u v w (inr h) (inl k) = inl (omega (arith, h.0))
sooner_trans u v w (inr h) (inr k) = inr (h.0 ∙ k.0, lex_trans u v w h.1 k.1)

pub sooner_asym : (u v : List ℕ) → Sooner u v → Sooner v u → ⊥
sooner_asym u v h k = sooner_irrefl u (sooner_trans u v u h k)

-- the empty word comes first
pub empty-first : (v : List ℕ) → ([] ≡ v) ⊎ Sooner [] v
empty-first [] = inl refl
empty-first (a ∷ v) = inr (inl (omega arith))

pub none_before_empty : (u : List ℕ) → Sooner u [] → ⊥
none_before_empty u (inl l) = omega arith
none_before_empty [] (inr r) = r.1
none_before_empty (a ∷ u) (inr r) = r.1

-- one more letter behind
pub sooner_push : (u v : List ℕ) (a b : ℕ) → Sooner u v → Sooner (u ++ a ∷ []) (v ++ b ∷ [])
sooner_push u v a b (inl l) = inl (omega (arith, length_push u a, length_push v b))
sooner_push u v a b (inr r) = inr (length_push u a ∙ ap (λ k. k + 1) r.0 ∙ sym (length_push v b), lex_push u v a b r.1)

pub sooner_final : (u : List ℕ) (a b : ℕ) → a < b → Sooner (u ++ a ∷ []) (u ++ b ∷ [])
sooner_final u a b h = inr (length_push u a ∙ sym (length_push u b), lex_final u a b h)

pub sooner_more : (u : List ℕ) (a : ℕ) → Sooner u (u ++ a ∷ [])
sooner_more u a = inl (omega (arith, length_push u a))

-- what comes no later than a sooner word
pub up_to : (w y v : List ℕ) → Sooner w y → (y ≡ v) ⊎ Sooner y v → Sooner w v
up_to w y v h (inl e) = subst (Sooner w) e h
up_to w y v h (inr k) = sooner_trans w y v h k
