-- The codes of a colouring that is made by a function, and such a colouring made code by code.
use Rattle.std.proofs.Common.{◌≡◌, ℕ, ◌+◌, ◌<◌, ◌≤◌, cond, ltb, List, length, get_or, set, min, sym, ap, ◌∙◌, inl, inr, arith, length-set}
use lib.ListN.{length-replicate}
use Rattle.std.proofs.lemmas.List.{get_or-set_same, get_or-set_other, get_or-replicate}
use Rattle.std.proofs.lemmas.Bool.{cases_lt, cases_eq, lt-ltb, le-ltb, cond-true, cond-false}
use Rattle.kinds.specs.Kinds.{KindModel}
use Rattle.drafts.proofs.Tabulates.{length-tabulate, get_d_tabulate, get_or_tabulate_past, is_tabulate}
use Rattle.views.specs.declared.colouring.Colouring.{Colouring}
use Rattle.views.specs.Colourings.{plain, coloured}

abbrev pub made : List ℕ → Colouring
made cs = record { codes = cs }

module _ (K : KindModel) (n : ℕ) (f : ℕ → ℕ) where
  -- what stands at the place p
  abbrev pub placed : ℕ → ℕ
  placed p = cond (ltb p n) (f p) K.none

  pub coloured-length : length (coloured K n f).codes ≡ 128
  unfolding coloured
  coloured-length = length-tabulate 128 placed

  pub coloured-at : (p d : ℕ) → p < 128 → get_or (coloured K n f).codes p d ≡ placed p
  unfolding coloured
  coloured-at p d l = get_d_tabulate 128 placed p d l

  pub coloured-past : (p d : ℕ) → 128 ≤ p → get_or (coloured K n f).codes p d ≡ d
  unfolding coloured
  coloured-past p d l = get_or_tabulate_past 128 placed p d l

  pub coloured_is : (c : Colouring) → length c.codes ≡ 128 → ((p : ℕ) → p < 128 → get_or c.codes p K.none ≡ placed p) → c ≡ coloured K n f
  unfolding coloured
  coloured_is c l h = ap made (is_tabulate K.none 128 placed c.codes l h)

  -- what a place has, by cases
  pub placed_is : (p r : ℕ) → (p < n → r ≡ f p) → (n ≤ p → r ≡ K.none) → r ≡ placed p
  placed_is p r below past =
      elim (cases_lt p n) [
        | inl l ↦ below l ∙ sym (cond-true (ltb p n) (f p) K.none (lt-ltb p n l))
        | inr g ↦ past g ∙ sym (cond-false (ltb p n) (f p) K.none (le-ltb p n g))
      ]

  -- the code of a state, and none past the last one
  pub coloured_state : n ≤ 128 → (p : ℕ) → p < n → get_or (coloured K n f).codes p K.none ≡ f p
  coloured_state few p l = coloured-at p K.none (omega arith) ∙ cond-true (ltb p n) (f p) K.none (lt-ltb p n l)

  pub coloured-none : (p : ℕ) → n ≤ p → get_or (coloured K n f).codes p K.none ≡ K.none
  coloured-none p g =
      elim (cases_lt p 128) [
        | inl l ↦ coloured-at p K.none l ∙ cond-false (ltb p n) (f p) K.none (le-ltb p n g)
        | inr far ↦ coloured-past p K.none far
      ]

pub coloured-first : (K : KindModel) (f : ℕ → ℕ) (c : ℕ) → c ≡ K.none → plain c ≡ coloured K 0 f
coloured-first K f c e =
    coloured_is K 0 f (plain c) (length-replicate 128 c)
    (λ p l. get_or-replicate 128 p c K.none l ∙ e ∙ sym (cond-false (ltb p 0) (f p) K.none (le-ltb p 0 (omega arith))))

-- one code more
pub colour_next : (K : KindModel) (n : ℕ) (f : ℕ → ℕ) (x : ℕ) (r s : Colouring) → s ≡ coloured K n f → x ≡ f n → r.codes ≡ set s.codes n x → r ≡ coloured K (n + 1) f
colour_next K n f x r s so here e = coloured_is K (n + 1) f r long at
  where
    long : length r.codes ≡ 128
    long = ap length e ∙ length-set s.codes n x ∙ ap (λ (c : Colouring). length c.codes) so ∙ coloured-length K n f

    wide : length s.codes ≡ 128
    wide = ap (λ (c : Colouring). length c.codes) so ∙ coloured-length K n f

    test : (p : ℕ) → (p ≡ n → ⊥) → ltb p n ≡ ltb p (n + 1)
    test p ne =
        elim (cases_lt p n) [
          | inl l ↦ lt-ltb p n l ∙ sym (lt-ltb p (n + 1) (omega arith))
          | inr g ↦ le-ltb p n g ∙ sym (le-ltb p (n + 1) (omega arith))
        ]

    at : (p : ℕ) → p < 128 → get_or r.codes p K.none ≡ placed K (n + 1) f p
    at p l =
        ap (λ cs. get_or cs p K.none) e ∙ elim (cases_eq p n) [
          | inl same ↦
              ap (λ k. get_or (set s.codes n x) k K.none) same
              ∙ get_or-set_same s.codes n x K.none (omega (arith, wide))
              ∙ here ∙ ap f (sym same) ∙ sym (cond-true (ltb p (n + 1)) (f p) K.none (lt-ltb p (n + 1) (omega arith)))
          | inr ne ↦
              get_or-set_other s.codes n p x K.none ne
              ∙ ap (λ (c : Colouring). get_or c.codes p K.none) so
              ∙ coloured-at K n f p K.none l
              ∙ ap (λ b. cond b (f p) K.none) (test p ne)
        ]

-- there is no place past the last
pub coloured_cut : (K : KindModel) (n : ℕ) (f : ℕ → ℕ) → coloured K (min n 128) f ≡ coloured K n f
coloured_cut K n f =
    coloured_is K n f (coloured K (min n 128) f) (coloured-length K (min n 128) f)
    (λ p l. coloured-at K (min n 128) f p K.none l ∙ ap (λ b. cond b (f p) K.none) (test p l))
  where
    test : (p : ℕ) → p < 128 → ltb p (min n 128) ≡ ltb p n
    test p l =
        elim (cases_lt p n) [
          | inl a ↦ lt-ltb p (min n 128) (omega arith) ∙ sym (lt-ltb p n a)
          | inr g ↦ le-ltb p (min n 128) (omega arith) ∙ sym (le-ltb p n g)
        ]
