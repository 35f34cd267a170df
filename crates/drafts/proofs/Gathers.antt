-- The join of the codes of those numbers below a bound that pass a test: the least code above each of them.
use Rattle.std.proofs.Common.{◌≡◌, ℕ, zero, suc, ◌+◌, ◌<◌, Bool, true, false, cond, ◌||◌, eqb, ◌⊎◌, sym, refl, ap, ◌∙◌, inl, inr, arith}
use mathlib.Core.Bool.{false≢true}
use Rattle.std.proofs.lemmas.Bool.{or_cases, or_left, or_right, eqb-true, eq-eqb}
use Rattle.kinds.specs.Kinds.{KindModel, clean, join, join_all}
use Rattle.kinds.proofs.Joins.{clean_is, clean_admitted, join_admitted, join_all_admitted, join_all-push, join-clean, unit_right, Below, none_below, below_left, below_right, join-below, equal_by_below}
use Rattle.drafts.specs.Words.{tabulate}
use Rattle.drafts.proofs.Tabulates.{tabulate-more}

module _ (K : KindModel) where
  pub all-below : (m : ℕ) (f : ℕ → ℕ) (u : ℕ) → K.admits u ≡ true → ((i : ℕ) → i < m → Below K (f i) u) → Below K (join_all K (tabulate m f)) u
  all-below zero f u a h = none_below K u a
  all-below (suc m) f u a h =
      join-below K (f 0) (join_all K (tabulate m (λ i. f (suc i)))) u (h 0 (omega arith)) (all-below m (λ i. f (suc i)) u a (λ i l. h (suc i) (omega arith)))

  pub below_all : (m : ℕ) (f : ℕ → ℕ) (u : ℕ) → Below K (join_all K (tabulate m f)) u → (i : ℕ) → i < m → Below K (f i) u
  below_all zero f u h i l = let z : ⊥ = omega arith in absurd z
  below_all (suc m) f u h zero l = below_left K (f 0) (join_all K (tabulate m (λ i. f (suc i)))) u h
  below_all (suc m) f u h (suc i) l =
      below_all m (λ k. f (suc k)) u (below_right K (f 0) (join_all K (tabulate m (λ k. f (suc k)))) u h) i (omega arith)

  cond_below : (b : Bool) (x u : ℕ) → K.admits u ≡ true → (b ≡ true → Below K x u) → Below K (cond b x K.none) u
  cond_below true x u a h = h refl
  cond_below false x u a h = none_below K u a

  below-cond : (b : Bool) (x u : ℕ) → Below K (cond b x K.none) u → b ≡ true → Below K x u
  below-cond true x u h e = h
  below-cond false x u h e = absurd (false≢true e)

  -- the join of the codes f of the numbers below m that pass s
  abbrev pub gather : ℕ → (ℕ → Bool) → (ℕ → ℕ) → ℕ
  gather m s f = join_all K (tabulate m (λ p. cond (s p) (f p) K.none))

  -- u is above each code that is gathered
  abbrev pub Above : ℕ → (ℕ → Bool) → (ℕ → ℕ) → ℕ → Type 0
  Above m s f u = (p : ℕ) → p < m → s p ≡ true → Below K (f p) u

  pub gather_admitted : (m : ℕ) (s : ℕ → Bool) (f : ℕ → ℕ) → K.admits (gather m s f) ≡ true
  gather_admitted m s f = join_all_admitted K (tabulate m (λ p. cond (s p) (f p) K.none))

  pub gather_below : (m : ℕ) (s : ℕ → Bool) (f : ℕ → ℕ) (u : ℕ) → K.admits u ≡ true → Above m s f u → Below K (gather m s f) u
  gather_below m s f u a h = all-below m (λ p. cond (s p) (f p) K.none) u a (λ p l. cond_below (s p) (f p) u a (h p l))

  pub below_gather : (m : ℕ) (s : ℕ → Bool) (f : ℕ → ℕ) (u : ℕ) → Below K (gather m s f) u → Above m s f u
  below_gather m s f u h p l e = below-cond (s p) (f p) u (below_all m (λ q. cond (s q) (f q) K.none) u h p l) e

  -- a gathered join is any admitted code that has the same codes above it
  pub gather_is : (m : ℕ) (s : ℕ → Bool) (f : ℕ → ℕ) (x : ℕ) → K.admits x ≡ true
      → ((u : ℕ) → K.admits u ≡ true → Above m s f u → Below K x u) → ((u : ℕ) → K.admits u ≡ true → Below K x u → Above m s f u) → gather m s f ≡ x
  gather_is m s f x a there back =
      equal_by_below K (gather m s f) x (gather_admitted m s f) a
      (λ u h k. there u h (below_gather m s f u k))
      (λ u h k. gather_below m s f u h (back u h k))

  -- only what the codes count as matters
  pub gather_same : (m : ℕ) (s t : ℕ → Bool) (f g : ℕ → ℕ)
      → ((p : ℕ) → p < m → s p ≡ t p) → ((p : ℕ) → p < m → t p ≡ true → clean K (f p) ≡ clean K (g p)) → gather m s f ≡ gather m t g
  gather_same m s t f g e c =
      gather_is m s f (gather m t g) (gather_admitted m t g)
      (λ u h k. gather_below m t g u h (λ p l i. ap (λ x. K.op x (clean K u)) (sym (c p l i)) ∙ k p l (e p l ∙ i)))
      (λ u h k p l i.
      let i' : t p ≡ true = sym (e p l) ∙ i in
      ap (λ x. K.op x (clean K u)) (c p l i') ∙ below_gather m t g u k p l i')

  pub gather_one : (m : ℕ) (q : ℕ) (f : ℕ → ℕ) → q < m → gather m (λ p. eqb p q) f ≡ clean K (f q)
  gather_one m q f l =
      gather_is m (λ p. eqb p q) f (clean K (f q)) (clean_admitted K (f q))
      (λ u h k. join-clean K (f q) u ∙ k q l (eq-eqb q q refl))
      (λ u h k p l' e. ap (λ x. join K (f x) u) (eqb-true p q e) ∙ sym (join-clean K (f q) u) ∙ k)

  pub gather_or : (m : ℕ) (s t : ℕ → Bool) (f : ℕ → ℕ) → gather m (λ p. s p || t p) f ≡ join K (gather m s f) (gather m t f)
  gather_or m s t f =
      gather_is m (λ p. s p || t p) f (join K (gather m s f) (gather m t f)) (join_admitted K (gather m s f) (gather m t f))
      (λ u h k. join-below K (gather m s f) (gather m t f) u
      (gather_below m s f u h (λ p l e. k p l (or_left (s p) (t p) e)))
      (gather_below m t f u h (λ p l e. k p l (or_right (s p) (t p) e))))
      (λ u h k p l e. either u k p l (or_cases (s p) (t p) e))
    where
      either : (u : ℕ) → Below K (join K (gather m s f) (gather m t f)) u → (p : ℕ) → p < m → (s p ≡ true) ⊎ (t p ≡ true) → Below K (f p) u
      either u k p l (inl e) = below_gather m s f u (below_left K (gather m s f) (gather m t f) u k) p l e
      either u k p l (inr e) = below_gather m t f u (below_right K (gather m s f) (gather m t f) u k) p l e

  -- for loops: one more number, which passes or does not
  pub gather_more : (m : ℕ) (s : ℕ → Bool) (f : ℕ → ℕ) → gather (m + 1) s f ≡ join K (gather m s f) (cond (s m) (f m) K.none)
  gather_more m s f =
      ap (join_all K) (tabulate-more m (λ p. cond (s p) (f p) K.none))
      ∙ join_all-push K (tabulate m (λ p. cond (s p) (f p) K.none)) (cond (s m) (f m) K.none)

  pub gather_in : (m : ℕ) (s : ℕ → Bool) (f : ℕ → ℕ) → s m ≡ true → gather (m + 1) s f ≡ join K (gather m s f) (f m)
  gather_in m s f h = gather_more m s f ∙ ap (λ b. join K (gather m s f) (cond b (f m) K.none)) h

  pub gather_out : (m : ℕ) (s : ℕ → Bool) (f : ℕ → ℕ) → s m ≡ false → gather (m + 1) s f ≡ gather m s f
  gather_out m s f h =
      gather_more m s f
      ∙ ap (λ b. join K (gather m s f) (cond b (f m) K.none)) h
      ∙ unit_right K (gather m s f)
      ∙ clean_is K (gather m s f) (gather_admitted m s f)
