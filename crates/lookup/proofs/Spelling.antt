-- Words that texts spell: a letter more, and that a text spells at most one.
use Rattle.std.proofs.Common.{◌≡◌, ℕ, zero, suc, ◌+◌, ◌<◌, ◌≤◌, false, eqb, List, [], ◌∷◌, ◌++◌, map, length, get_or, take, Some, None, Option, sym, refl, ap, ◌∙◌, subst, ap₂, inl, inr, arith}
use mathlib.Core.List.{map-append}
use Rattle.std.proofs.lemmas.List.{take_more, get_or-take, length-take-le}
use Rattle.std.proofs.lemmas.Bool.{cases_lt, cases_order, cases_Bool, eqb-true, eq-eqb, both_ways, cond-true, cond-false}
use Rattle.kinds.specs.Kinds.{KindModel, clean}
use Rattle.automata.specs.declared.signs.Signs.{Signs}
use Rattle.automata.specs.Signs.{Apart}
use Rattle.automata.specs.Shown.{sign_bytes}
use Rattle.automata.proofs.SignLaws.{accepted-parts, apart_from}
use Rattle.drafts.specs.Words.{Over, run}
use Rattle.drafts.proofs.Runs.{run-append, over-append}
use Rattle.machines.specs.Tables.{table_step}
use Rattle.tables.specs.declared.grid.Grid.{Grid}
use Rattle.tables.specs.Shown.{shown}
use Rattle.views.specs.Accepted.{accepted}
use Rattle.views.specs.TableViews.{value_of_state}
use Rattle.views.specs.TableSays.{table_says}
use Rattle.lookup.specs.Lookups.{Spells, NoLetter, Ends, BestTo, kept}

module _ (signs : List ℕ) where
  abbrev sign_of : ℕ → ℕ
  sign_of a = get_or signs a 0

  pub spell_more : (text w : List ℕ) (k a : ℕ) → Spells signs (take k text) w → k < length text → a < length signs → get_or signs a 0 ≡ get_or text k 0
      → Spells signs (take (k + 1) text) (w ++ a ∷ [])
  spell_more text w k a s l h e = (
    over-append (length signs) w (a ∷ []) s.0 (h, tt),
    take_more text k 0 l ∙ (ap₂ (λ (x : List ℕ) (y : ℕ). x ++ y ∷ []) s.1 (sym e) ∙ sym (map-append sign_of w (a ∷ []))),
  )

  -- the letter of a byte of a text that is spelled
  letter_at : (w : List ℕ) → Over (length signs) w → (k : ℕ) → k < length (map sign_of w) → (a : ℕ) × (a < length signs) × (sign_of a ≡ get_or (map sign_of w) k 0)
  letter_at [] o k l = absurd (omega arith)
  letter_at (a ∷ w) o zero l = (a, o.0, refl)
  letter_at (a ∷ w) o (suc k) l = letter_at w o.1 k (omega arith)

  -- past a byte that is no sign no word is spelled
  pub stops : (text w : List ℕ) (k j : ℕ) → NoLetter signs (get_or text k 0) → k < j → j ≤ length text → Spells signs (take j text) w → ⊥
  stops text w k j none l h s =
      let long : length (take j text) ≡ j = length-take-le j text h in
      let r = letter_at w s.0 k (rw (← s.1, long) l) in
      none r.0 r.1 (r.2 ∙ (ap (λ (x : List ℕ). get_or x k 0) (sym s.1) ∙ get_or-take j text k 0 l))

  module _ (apart : Apart signs (length signs)) where
    one-letter : (a b : ℕ) → a < length signs → b < length signs → sign_of a ≡ sign_of b → a ≡ b
    one-letter a b l h e =
        elim (cases_order a b) [
          | inl same ↦ same
          | inr o ↦ elim o [ inl lt ↦ absurd (apart b h a lt e) | inr gt ↦ absurd (apart a l b gt (sym e)) ]
        ]

    one_map : (u v : List ℕ) → Over (length signs) u → Over (length signs) v → map sign_of u ≡ map sign_of v → u ≡ v
    one_map [] [] o p e = refl
    one_map [] (b ∷ v) o p e = let z = ap length e in absurd (omega arith)
    one_map (a ∷ u) [] o p e = let z = ap length e in absurd (omega arith)
    one_map (a ∷ u) (b ∷ v) o p e =
        ap₂ (λ (x : ℕ) (y : List ℕ). x ∷ y) (one-letter a b o.0 p.0 (ap (λ (xs : List ℕ). get_or xs 0 0) e))
        (one_map u v o.1 p.1 (ap rest e))
      where
        rest : List ℕ → List ℕ
        rest [] = []
        rest (x ∷ xs) = xs

    pub spell_one : (text u v : List ℕ) → Spells signs text u → Spells signs text v → u ≡ v
    spell_one text u v s t = one_map u v s.0 t.0 (sym s.1 ∙ t.1)

pub signs_apart : (s : Signs) → Apart (sign_bytes s) (length (sign_bytes s))
signs_apart s = apart_from (sign_bytes s) (accepted-parts (sign_bytes s) (accepted s)).1

module _ (K : KindModel) (t : Grid) (text : List ℕ) where
  abbrev signs : List ℕ
  signs = sign_bytes t.signs

  -- a word that the front of the text spells leads to this state
  abbrev pub Led : ℕ → ℕ → Type 0
  Led k state = (w : List ℕ) × Spells signs (take k text) w × (state ≡ run (table_step (length signs) (shown t)) 0 w)

  pub led-none : Led 0 0
  led-none = ([], (tt, refl), refl)

  pub led-more : (k state a next : ℕ) → Led k state → k < length text → a < length signs → get_or signs a 0 ≡ get_or text k 0
      → next ≡ table_step (length signs) (shown t) state a → Led (k + 1) next
  led-more k state a next (w, s, e) l h f n = (
    w ++ a ∷ [],
    spell_more signs text w k a s l h f,
    n ∙ (ap (λ (i : ℕ). table_step (length signs) (shown t) i a) e ∙ sym (run-append (table_step (length signs) (shown t)) 0 w (a ∷ []))),
  )

  pub led-says : (k state : ℕ) (r : Led k state) → clean K (value_of_state K (shown t) state) ≡ table_says K t r.0
  led-says k state r = ap (λ (i : ℕ). clean K (value_of_state K (shown t) i)) r.2

  -- what the word of the front part says, every word says that it spells
  front-says : (k state v : ℕ) (r : Led k state) → v ≡ clean K (value_of_state K (shown t) state) → v ≡ K.none → (w : List ℕ) → Spells signs (take k text) w → table_says K t w ≡ K.none
  front-says k state v r e n w s =
      ap (table_says K t) (spell_one signs (signs_apart t.signs) (take k text) w r.0 s r.1) ∙ (sym (led-says k state r) ∙ (sym e ∙ n))

  -- a front part whose value is not none is the longest up to its end
  ends-here : (k state : ℕ) → Led k state → eqb (clean K (value_of_state K (shown t) state)) K.none ≡ false → Ends K t text k k (clean K (value_of_state K (shown t) state))
  ends-here k state r e = record {
    within = omega arith;
    spelled = (r.0, r.1, led-says k state r);
    some = λ z. both_ways _ e (eq-eqb (clean K (value_of_state K (shown t) state)) K.none z);
    longer = λ j l h. absurd (omega arith);
  }

  -- one front part more whose value is none
  longer-none : (k state : ℕ) → Led (k + 1) state → clean K (value_of_state K (shown t) state) ≡ K.none → (b : ℕ) → ((j : ℕ) → b ≤ j → j ≤ k → (w : List ℕ) → Spells signs (take j text) w → table_says K t w ≡ K.none)
      → (j : ℕ) → b ≤ j → j ≤ k + 1 → (w : List ℕ) → Spells signs (take j text) w → table_says K t w ≡ K.none
  longer-none k state r z b old j l h w s =
      elim (cases_lt j (k + 1)) [
        | inl lt ↦ old j l (omega arith) w s
        | inr ge ↦ let e : j ≡ k + 1 = omega arith in front-says (k + 1) state _ r refl z w (subst (λ (i : ℕ). Spells signs (take i text) w) e s)
      ]

  more-none : (k state : ℕ) (best : Option (ℕ × ℕ)) → Led (k + 1) state → clean K (value_of_state K (shown t) state) ≡ K.none → BestTo K t text k best → BestTo K t text (k + 1) best
  more-none k state None r z old = longer-none k state r z 0 old
  more-none k state (Some b) r z old = record {
    within = omega (arith, old.within);
    spelled = old.spelled;
    some = old.some;
    longer = λ j l h. longer-none k state r z (b.0 + 1) (λ i m n. old.longer i (omega arith) n) j (omega arith) h;
  }

  pub keep_first : (state : ℕ) → Led 0 state → BestTo K t text 0 (kept K.none None 0 (clean K (value_of_state K (shown t) state)))
  keep_first state r =
      elim (cases_Bool (eqb (clean K (value_of_state K (shown t) state)) K.none)) [
        | inl e ↦ subst (BestTo K t text 0) (sym (cond-true _ None (Some (0, clean K (value_of_state K (shown t) state))) e))
            (λ j l h w s. let z : j ≡ 0 = omega arith in
            front-says 0 state _ r refl (eqb-true _ _ e) w (subst (λ (i : ℕ). Spells signs (take i text) w) z s))
        | inr e ↦ subst (BestTo K t text 0) (sym (cond-false _ None (Some (0, clean K (value_of_state K (shown t) state))) e)) (ends-here 0 state r e)
      ]

  pub keep_more : (k state : ℕ) (best : Option (ℕ × ℕ)) → Led (k + 1) state → BestTo K t text k best → BestTo K t text (k + 1) (kept K.none best (k + 1) (clean K (value_of_state K (shown t) state)))
  keep_more k state best r old =
      elim (cases_Bool (eqb (clean K (value_of_state K (shown t) state)) K.none)) [
        | inl e ↦ subst (BestTo K t text (k + 1)) (sym (cond-true _ best (Some (k + 1, clean K (value_of_state K (shown t) state))) e)) (more-none k state best r (eqb-true _ _ e) old)
        | inr e ↦ subst (BestTo K t text (k + 1)) (sym (cond-false _ best (Some (k + 1, clean K (value_of_state K (shown t) state))) e)) (ends-here (k + 1) state r e)
      ]

  -- from a byte that is no sign on there is no longer one
  pub best_stops : (k : ℕ) (best : Option (ℕ × ℕ)) → NoLetter signs (get_or text k 0) → k < length text → BestTo K t text k best → BestTo K t text (length text) best
  best_stops k None none l old = λ j b h w s. elim (cases_lt k j) [ inl lt ↦ absurd (stops signs text w k j none lt h s) | inr ge ↦ old j b ge w s ]
  best_stops k (Some b) none l old = record {
    within = omega (arith, old.within);
    spelled = old.spelled;
    some = old.some;
    longer = λ j lt h w s. elim (cases_lt k j) [ inl far ↦ absurd (stops signs text w k j none far h s) | inr ge ↦ old.longer j lt ge w s ];
  }
