-- A state has one verdict, and which one can be tested on the codes.
use Rattle.std.proofs.Common.{◌≡◌, ℕ, ◌<◌, ◌≤◌, Bool, true, not, ◌&&◌, eqb, ltb, ◌⊎◌, List, [], length, get_or, sym, refl, ◌∙◌, subst, ap₂, inl, inr, arith}
use Rattle.std.proofs.lemmas.Bool.{cases_order, ltb-true, lt-ltb, eqb-true, eq-eqb, eqb-false, ne_eqb, not-true, not_from_false, both_ways, and_parts, and_from}
use Rattle.kinds.specs.Kinds.{KindModel}
use Rattle.automata.specs.Tests.{every}
use Rattle.views.specs.declared.colouring.Colouring.{Colouring}
use Rattle.pressing.specs.declared.judging.Verdict.{Verdict}
use Rattle.pressing.specs.declared.judging.Verdict.TheVariants.{Atomic, Told}
use Rattle.pressing.specs.Press.{code_of_entry}
use Rattle.pressing.specs.Verdicts.{Tells, Alone, AloneTo, FirstPair, Judged}
use Rattle.cases.proofs.Walking.{every-at, every_from, three}
use Rattle.cases.proofs.Painting.{codes_of}

module _ (K : KindModel) (cols : List Colouring) (n : ℕ) (rows : List Colouring) (m q : ℕ) where
  no-pair : {i j : ℕ} → AloneTo K cols n rows m q n → FirstPair K cols n rows m q i j → ⊥
  no-pair {i} {j} none p = let h : i < n = omega (arith, p.order, p.within) in none i h j p.order p.within p.tells

  first_one : {i j k l : ℕ} → FirstPair K cols n rows m q i j → FirstPair K cols n rows m q k l → Told i j ≡ Told k l
  first_one {i} {j} {k} {l} a b = low (cases_order i k)
    where
      high : i ≡ k → (j ≡ l) ⊎ ((j < l) ⊎ (l < j)) → Told i j ≡ Told k l
      high e (inl h) = ap₂ Told e h
      high e (inr (inl h)) = absurd (b.higher j (omega (arith, e, a.order)) h (subst (λ x. Tells K cols rows m q x j) e a.tells))
      high e (inr (inr h)) = absurd (a.higher l (omega (arith, e, b.order)) h (subst (λ x. Tells K cols rows m q x l) (sym e) b.tells))

      low : (i ≡ k) ⊎ ((i < k) ⊎ (k < i)) → Told i j ≡ Told k l
      low (inl e) = high e (cases_order j l)
      low (inr (inl h)) = absurd (b.lower i h j a.order a.within a.tells)
      low (inr (inr h)) = absurd (a.lower k h l b.order b.within b.tells)

  pub one_verdict : (v w : Verdict) → Judged K cols n rows m q v → Judged K cols n rows m q w → v ≡ w
  one_verdict Atomic Atomic a b = refl
  one_verdict Atomic (Told k l) a b = absurd (no-pair a b)
  one_verdict (Told i j) Atomic a b = absurd (no-pair b a)
  one_verdict (Told i j) (Told k l) a b = first_one a b

-- The same tests on lists of codes: the backward states cs, and the rows of the chart rs.
module _ (K : KindModel) (cs rs : List (List ℕ)) (q : ℕ) where
  abbrev code_of : List (List ℕ) → ℕ → ℕ → ℕ
  code_of xs i p = codes_of K (get_or xs i []) p

  abbrev same_at : ℕ → ℕ → ℕ → Bool
  same_at i j r = eqb (code_of rs r i) (code_of rs r j)

  abbrev tells : ℕ → ℕ → Bool
  tells i j = every (length rs) (same_at i j) && not (eqb (code_of cs i q) (code_of cs j q))

  -- i and a higher j do not tell against q
  abbrev silent : ℕ → ℕ → Bool
  silent i j = not (ltb i j && tells i j)

  abbrev alone_to : ℕ → Bool
  alone_to b = every b (λ i. every (length cs) (silent i))

  abbrev first_pair : ℕ → ℕ → Bool
  first_pair i j = (ltb i j && (ltb j (length cs) && tells i j)) && (alone_to i && every j (silent i))

  abbrev pub judges : Verdict → Bool
  judges Atomic = alone_to (length cs)
  judges (Told i j) = first_pair i j

  module _ (cols rows : List Colouring)
      (col : (i : ℕ) → i < length cs → (p : ℕ) → code_of_entry K cols i p ≡ code_of cs i p)
      (row : (r : ℕ) → r < length rs → (p : ℕ) → code_of_entry K rows r p ≡ code_of rs r p) where
    tells-right : (i j : ℕ) → i < length cs → j < length cs → tells i j ≡ true → Tells K cols rows (length rs) q i j
    tells-right i j li lj e =
        let p = and_parts (every (length rs) (same_at i j)) (not (eqb (code_of cs i q) (code_of cs j q))) e in (
          λ r l. row r l i ∙ eqb-true (code_of rs r i) (code_of rs r j) (every-at (length rs) (same_at i j) p.0 r l) ∙ sym (row r l j),
          λ h. eqb-false (code_of cs i q) (code_of cs j q) (not-true _ p.1) (sym (col i li q) ∙ h ∙ col j lj q),
        )

    right-tells : (i j : ℕ) → i < length cs → j < length cs → Tells K cols rows (length rs) q i j → tells i j ≡ true
    right-tells i j li lj t =
        and_from (every (length rs) (same_at i j)) (not (eqb (code_of cs i q) (code_of cs j q)))
        (every_from (length rs) (same_at i j) (λ r l. eq-eqb (code_of rs r i) (code_of rs r j) (sym (row r l i) ∙ t.0 r l ∙ row r l j)))
        (not_from_false _ (ne_eqb (code_of cs i q) (code_of cs j q) (λ h. t.1 (col i li q ∙ h ∙ sym (col j lj q)))))

    alone-right : (i b : ℕ) → i < length cs → b ≤ length cs → every b (silent i) ≡ true → Alone K cols rows (length rs) q i b
    alone-right i b li lb e j lo hi t =
        both_ways (ltb i j && tells i j) (not-true _ (every-at b (silent i) e j hi))
        (and_from (ltb i j) (tells i j) (lt-ltb i j lo) (right-tells i j li (omega arith) t))

    alone_to-right : (b : ℕ) → b ≤ length cs → alone_to b ≡ true → AloneTo K cols (length cs) rows (length rs) q b
    alone_to-right b lb e i l = alone-right i (length cs) (omega arith) (omega arith) (every-at b (λ i. every (length cs) (silent i)) e i l)

    pub judges_right : (v : Verdict) → judges v ≡ true → Judged K cols (length cs) rows (length rs) q v
    judges_right Atomic e = alone_to-right (length cs) (omega arith) e
    judges_right (Told i j) e =
        let h = and_parts (ltb i j && (ltb j (length cs) && tells i j)) (alone_to i && every j (silent i)) e in
        let p = three (ltb i j) (ltb j (length cs)) (tells i j) h.0 in
        let s = and_parts (alone_to i) (every j (silent i)) h.1 in
        let order : i < j = ltb-true i j p.0 in
        let within : j < length cs = ltb-true j (length cs) p.1 in
        let li : i < length cs = omega arith in
        record {
          order = order;
          within = within;
          tells = tells-right i j li within p.2;
          lower = alone_to-right i (omega arith) s.0;
          higher = alone-right i j li (omega arith) s.1;
        }
