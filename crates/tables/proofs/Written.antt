-- Numbers in rows: what a write to one place leaves.
use Rattle.std.proofs.Common.{◌≡◌, ℕ, ◌<◌, cond, ◌&&◌, eqb, List, [], length, get_or, set, refl, ap, ◌∙◌, inl, inr, arith, length-set}
use Rattle.std.proofs.lemmas.List.{get_or-set_same, get_or-set_other, set_past}
use Rattle.std.proofs.lemmas.Bool.{eq-eqb, ne_eqb, cases_eq, cases_lt}
use Rattle.automata.specs.Signs.{BlankPast}
use Rattle.automata.specs.Held.{Bytes, RowsOf}
use Rattle.tables.specs.Held.{cell}

-- the place (p, a) holds v
abbrev pub written : List (List ℕ) → ℕ → ℕ → ℕ → List (List ℕ)
written rows p a v = set rows p (set (get_or rows p []) a v)

module _ (rows : List (List ℕ)) (p a v : ℕ) (lp : p < length rows) (la : a < length (get_or rows p [])) where
  row_at : get_or (written rows p a v) p [] ≡ set (get_or rows p []) a v
  row_at = get_or-set_same rows p (set (get_or rows p []) a v) [] lp

  row_other : (k : ℕ) → (k ≡ p → ⊥) → get_or (written rows p a v) k [] ≡ get_or rows k []
  row_other k ne = get_or-set_other rows p k (set (get_or rows p []) a v) [] ne

  pub written-ends : (k b : ℕ) → cell (written rows p a v) k b ≡ cond (eqb k p && eqb b a) v (cell rows k b)
  written-ends k b =
      elim (cases_eq k p) [
        | inl e ↦ rw (e, eq-eqb p p refl)
            (ap (λ (r : List ℕ). get_or r b 0) row_at
            ∙ elim (cases_eq b a) [
              | inl f ↦ rw (f, eq-eqb a a refl) (get_or-set_same (get_or rows p []) a v 0 la)
              | inr ne ↦ rw (ne_eqb b a ne) (get_or-set_other (get_or rows p []) a b v 0 ne)
            ])
        | inr ne ↦ rw (ne_eqb k p ne) (ap (λ (r : List ℕ). get_or r b 0) (row_other k ne))
      ]

  pub written-rows : (m : ℕ) → RowsOf m rows → RowsOf m (written rows p a v)
  written-rows m h k l =
      let lk : k < length rows = omega (arith, simp length-set at l) in
      elim (cases_eq k p) [
        | inl e ↦ rw e (ap length row_at ∙ (length-set (get_or rows p []) a v ∙ h p lp))
        | inr ne ↦ ap length (row_other k ne) ∙ h k lk
      ]

-- bytes and blanks after a write
pub set-bytes : (xs : List ℕ) (i y : ℕ) → y < 256 → Bytes xs → Bytes (set xs i y)
set-bytes xs i y l h k =
    elim (cases_eq k i) [
      | inl e ↦ rw e (elim (cases_lt i (length xs)) [
        | inl inside ↦ rw (get_or-set_same xs i y 0 inside) l
        | inr past ↦ rw (set_past xs i y past) (h i)
      ])
      | inr ne ↦ rw (get_or-set_other xs i k y 0 ne) (h k)
    ]

pub set-blank : (xs : List ℕ) (i y n : ℕ) → i < n → BlankPast xs n → BlankPast (set xs i y) n
set-blank xs i y n l h k past = let ne : k ≡ i → ⊥ = λ e. omega arith in get_or-set_other xs i k y 0 ne ∙ h k past
