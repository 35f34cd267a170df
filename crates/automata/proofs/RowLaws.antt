-- Rows of states: what a write to one row leaves of the others.
use Rattle.std.proofs.Common.{◌≡◌, ℕ, ◌<◌, cond, ◌&&◌, eqb, List, length, get_or, set, replicate, false, sym, refl, ap, ◌∙◌, inl, inr, arith}
use Rattle.std.proofs.lemmas.List.{get_or-set_same, get_or-set_other, set-get_or, map-set, get_or-map, get_or-replicate, get_or_past, length-replicate}
use Rattle.std.proofs.lemmas.Bool.{eq-eqb, ne_eqb, cases_eq, cases_lt}
use Rattle.automata.specs.declared.sets.StateSet.{StateSet}
use Rattle.automata.specs.declared.row.Row.{Row}
use Rattle.automata.specs.Sets.{has, no_states}
use Rattle.automata.specs.Held.{blank_row, row_of, ends_of}
use Rattle.automata.specs.Shown.{codes_of}
use Rattle.automata.proofs.SetLaws.{has-none}

get_or-set : {X : Type 0} (xs : List X) (i k : ℕ) (y d : X) → i < length xs → get_or (set xs i y) k d ≡ cond (eqb k i) y (get_or xs k d)
get_or-set xs i k y d l =
    elim (cases_eq k i) [
      | inl e ↦ rw (e, eq-eqb i i refl) (get_or-set_same xs i y d l)
      | inr ne ↦ rw (ne_eqb k i ne) (get_or-set_other xs i k y d ne)
    ]

-- the row w in the place of the row of p
module _ (rows : List Row) (p : ℕ) (w : Row) (lp : p < length rows) where
  pub codes-same : w.code ≡ (row_of rows p).code → codes_of (set rows p w) ≡ codes_of rows
  codes-same e =
      map-set (λ (r : Row). r.code) rows p w
      ∙ (ap (set (codes_of rows) p) (e ∙ sym (get_or-map (λ (r : Row). r.code) rows p blank_row 0 lp)) ∙ set-get_or (codes_of rows) p 0)

  pub ends-same : w.ends ≡ (row_of rows p).ends → (k a : ℕ) → ends_of (set rows p w) k a ≡ ends_of rows k a
  ends-same e k a =
      elim (cases_eq k p) [
        | inl s ↦ rw (s, get_or-set_same rows p w blank_row lp) (ap (λ (es : List StateSet). get_or es a no_states) e)
        | inr ne ↦ ap (λ (r : Row). get_or r.ends a no_states) (get_or-set_other rows p k w blank_row ne)
      ]

  -- another set of ends by the letter a
  pub ends-set : (a : ℕ) (t : StateSet) → a < length (row_of rows p).ends → w.ends ≡ set (row_of rows p).ends a t
      → (k b : ℕ) → ends_of (set rows p w) k b ≡ cond (eqb k p && eqb b a) t (ends_of rows k b)
  ends-set a t la e k b =
      elim (cases_eq k p) [
        | inl s ↦ rw (s, eq-eqb p p refl, get_or-set_same rows p w blank_row lp)
            (ap (λ (es : List StateSet). get_or es b no_states) e ∙ get_or-set (row_of rows p).ends a b t no_states la)
        | inr ne ↦ rw (ne_eqb k p ne) (ap (λ (r : Row). get_or r.ends b no_states) (get_or-set_other rows p k w blank_row ne))
      ]

get_or-all : {X : Type 0} (n k : ℕ) (x : X) → get_or (replicate n x) k x ≡ x
get_or-all n k x =
    elim (cases_lt k n) [
      | inl low ↦ get_or-replicate n k x x low
      | inr past ↦ get_or_past (replicate n x) k x (simp length-replicate (omega arith))
    ]

-- 32 blank rows
module _ (w : Row) (e : w ≡ blank_row) where
  pub code-none : (p : ℕ) → (row_of (replicate 32 w) p).code ≡ 0
  code-none p = ap (λ (r : Row). (row_of (replicate 32 r) p).code) e ∙ ap (λ (r : Row). r.code) (get_or-all 32 p blank_row)

  pub has-none_at : (p a q : ℕ) → has (ends_of (replicate 32 w) p a) q ≡ false
  has-none_at p a q =
      ap (λ (r : Row). has (ends_of (replicate 32 r) p a) q) e
      ∙ (ap (λ (r : Row). has (get_or r.ends a no_states) q) (get_or-all 32 p blank_row)
      ∙ (ap (λ (s : StateSet). has s q) (get_or-all 16 a no_states) ∙ has-none q))
