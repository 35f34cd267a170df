-- What the changes of an automaton's fields mean for what it holds.
use Rattle.std.proofs.Common.{◌≡◌, ℕ, ◌+◌, ◌<◌, Bool, true, cond, ◌&&◌, eqb, ltb, [], ◌∷◌, ◌++◌, length, get_or, take, set, sym, refl, ap, ◌∙◌, inl, inr, arith, length-take}
use Rattle.std.proofs.Math.Seq.{take-set-lt}
use Rattle.std.proofs.lemmas.List.{take_more_set, get_or-take, get_or-map, length-map, map_push, map-set, take-map, length-take-le}
use Rattle.std.proofs.lemmas.Bool.{lt-ltb, eq-eqb, ne_eqb, cases_eq, cond-true}
use Rattle.automata.specs.declared.sets.StateSet.{StateSet}
use Rattle.automata.specs.declared.row.Row.{Row}
use Rattle.automata.specs.declared.signs.Signs.{Signs}
use Rattle.automata.specs.declared.automaton.Automaton.{Automaton}
use Rattle.automata.specs.Sets.{has}
use Rattle.automata.specs.Held.{blank_row, row_of, ends_of}
use Rattle.automata.specs.Drafts.{DraftModel, size, letters, is_state, is_letter, with_values, with_arrow}
use Rattle.automata.specs.Shown.{sign_bytes, codes_of, shown}
use Rattle.automata.proofs.RowLaws.{codes-same, ends-same, ends-set}
use Rattle.automata.proofs.SameDraft.{same-draft}

pub sign_count : (s : Signs) → length (sign_bytes s) ≡ s.count
sign_count s = length-take-le s.count s.bytes (omega (arith, s.wide, s.few))

module _ (d : Automaton) where
  pub shown-size : size (shown d) ≡ d.count
  shown-size = simp (length-map, length-take) (omega (arith, d.wide, d.few))

  pub shown-letters : letters (shown d) ≡ d.signs.count
  shown-letters = sign_count d.signs

  pub is_state_lem : (p : ℕ) → p < d.count → is_state (shown d) p ≡ true
  is_state_lem p l = lt-ltb p (size (shown d)) (rw shown-size l)

  row_in : (p : ℕ) → p < d.count → p < length d.rows
  row_in p l = omega (arith, d.wide, d.few)

  pub shown-code : (p : ℕ) → p < d.count → get_or (shown d).values p 0 ≡ (row_of d.rows p).code
  shown-code p l =
      get_or-map (λ (r : Row). r.code) (take d.count d.rows) p blank_row 0 (simp length-take (omega (arith, d.wide, d.few)))
      ∙ ap (λ (r : Row). r.code) (get_or-take d.count d.rows p blank_row l)

  -- the row w in the place of the row of p
  module _ (p : ℕ) (w : Row) (l : p < d.count) where
    -- another code for one state
    pub changed-code : (code : ℕ) → w.code ≡ code → w.ends ≡ (row_of d.rows p).ends
        → (e : DraftModel) → e.signs ≡ (shown d).signs → e.values ≡ codes_of (take d.count (set d.rows p w)) → e.entry ≡ (shown d).entry
        → ((k b q : ℕ) → e.arrow k b q ≡ has (ends_of (set d.rows p w) k b) q)
        → e ≡ with_values (shown d) (set (shown d).values p code)
    changed-code code c f e s v n r =
        same-draft e (with_values (shown d) (set (shown d).values p code)) s
        (v ∙ (ap codes_of (take-set-lt d.count d.rows p w l) ∙ (map-set (λ (r : Row). r.code) (take d.count d.rows) p w ∙ ap (set (shown d).values p) c)))
        (λ k. ap (λ (g : ℕ → Bool). g k) n)
        (λ k b q. r k b q ∙ ap (λ (s : StateSet). has s q) (ends-same d.rows p w (row_in p l) f k b))

    -- an arrow more or fewer, where t has the ends from p by a after the change
    pub changed-arrow : (a q : ℕ) (on : Bool) (t : StateSet) → q < d.count → a < d.signs.count
        → w.code ≡ (row_of d.rows p).code → w.ends ≡ set (row_of d.rows p).ends a t
        → ((k : ℕ) → has t k ≡ cond (eqb k q) on (has (ends_of d.rows p a) k))
        → (e : DraftModel) → e.signs ≡ (shown d).signs → e.values ≡ codes_of (take d.count (set d.rows p w)) → e.entry ≡ (shown d).entry
        → ((k b q' : ℕ) → e.arrow k b q' ≡ has (ends_of (set d.rows p w) k b) q')
        → e ≡ cond (is_state (shown d) p && is_state (shown d) q && is_letter (shown d) a) (with_arrow (shown d) p a q on) (shown d)
    changed-arrow a q on t lq la c f put e s v n r =
        same-draft e (with_arrow (shown d) p a q on) s (v ∙ same_values) (λ k. ap (λ (g : ℕ → Bool). g k) n)
        (λ k b q'. r k b q' ∙ (ap (λ (s : StateSet). has s q') (ends-set d.rows p w (row_in p l) a t column f k b) ∙ one_arrow k b q'))
        ∙ sym (cond-true _ (with_arrow (shown d) p a q on) (shown d) yes)
      where
        column : a < length (row_of d.rows p).ends
        column = omega (arith, (row_of d.rows p).wide, d.signs.few)

        same_values : codes_of (take d.count (set d.rows p w)) ≡ (shown d).values
        same_values =
            sym (take-map (λ (r : Row). r.code) d.count (set d.rows p w))
            ∙ (ap (take d.count) (codes-same d.rows p w (row_in p l) c) ∙ take-map (λ (r : Row). r.code) d.count d.rows)

        one_arrow : (k b q' : ℕ) → has (cond (eqb k p && eqb b a) t (ends_of d.rows k b)) q' ≡ cond (eqb k p && eqb b a && eqb q' q) on (has (ends_of d.rows k b) q')
        one_arrow k b q' =
            elim (cases_eq k p) [
              | inl e ↦ elim (cases_eq b a) [
                | inl f ↦ rw (e, f, eq-eqb p p refl, eq-eqb a a refl) (put q')
                | inr ne ↦ rw (e, eq-eqb p p refl, ne_eqb b a ne) refl
              ]
              | inr ne ↦ rw (ne_eqb k p ne) refl
            ]

        yes : (is_state (shown d) p && is_state (shown d) q && is_letter (shown d) a) ≡ true
        yes = rw (is_state_lem p l, is_state_lem q lq) (lt-ltb a (letters (shown d)) (rw shown-letters la))

  -- one state more
  pub added_state : (code : ℕ) (w : Row) → d.count < 32 → w.code ≡ code → w.ends ≡ (row_of d.rows d.count).ends
      → (e : DraftModel) → e.signs ≡ (shown d).signs → e.values ≡ codes_of (take (d.count + 1) (set d.rows d.count w)) → e.entry ≡ (shown d).entry
      → ((k b q : ℕ) → e.arrow k b q ≡ has (ends_of (set d.rows d.count w) k b) q)
      → e ≡ cond (ltb (size (shown d)) 32) (with_values (shown d) ((shown d).values ++ code ∷ [])) (shown d)
  added_state code w room c f e s v n r =
      same-draft e (with_values (shown d) ((shown d).values ++ code ∷ [])) s (v ∙ more) (λ k. ap (λ (g : ℕ → Bool). g k) n)
      (λ k b q. r k b q ∙ ap (λ (s : StateSet). has s q) (ends-same d.rows d.count w row f k b))
      ∙ sym (cond-true (ltb (size (shown d)) 32) _ _ (lt-ltb (size (shown d)) 32 (rw shown-size room)))
    where
      row : d.count < length d.rows
      row = omega (arith, d.wide)

      more : codes_of (take (d.count + 1) (set d.rows d.count w)) ≡ (shown d).values ++ code ∷ []
      more =
          ap codes_of (take_more_set d.rows d.count w row)
          ∙ (map_push (λ (r : Row). r.code) (take d.count d.rows) w ∙ ap (λ (y : ℕ). (shown d).values ++ y ∷ []) c)
