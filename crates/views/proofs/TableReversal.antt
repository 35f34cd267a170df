-- A table read backward: after a word the code of each state is the table's value from there of the word turned round.
use Rattle.std.proofs.Common.{◌≡◌, ℕ, ◌<◌, ◌≤◌, ltb, ◌⊎◌, List, [], ◌∷◌, reverse, length, get_or, None, sym, refl, ap, ◌∙◌, inl, inr}
use mathlib.Core.List.{reverse-reverse}
use Rattle.std.proofs.lemmas.List.{get_or_past}
use Rattle.std.proofs.lemmas.Bool.{cases_lt, lt-ltb, le-ltb, and_left, cond-true, cond-false}
use Rattle.kinds.specs.Kinds.{KindModel, clean}
use Rattle.kinds.proofs.Joins.{clean_is}
use Rattle.automata.specs.Signs.{sign_fault}
use Rattle.drafts.specs.Words.{run}
use Rattle.drafts.proofs.Runs.{run-reverse}
use Rattle.machines.specs.Tables.{TableModel, count, next, table_step}
use Rattle.machines.proofs.Reading.{table-idle}
use Rattle.views.specs.declared.colouring.Colouring.{Colouring}
use Rattle.views.specs.Colourings.{coloured}
use Rattle.views.specs.TableViews.{value_of_state, next_code, codes_onward}
use Rattle.views.specs.ViewLaws.{TableViewLaws}
use Rattle.views.proofs.ColouredLaws.{coloured_state, coloured-none}

-- what is no state stays where it is
past-idle : (n : ℕ) (t : TableModel) (p a : ℕ) → count t ≤ p → table_step n t p a ≡ p
past-idle n t p a g = cond-false _ (next n t p a) p (and_left (ltb p (count t)) (ltb a n) (le-ltb p (count t) g))

past_stays : (n : ℕ) (t : TableModel) (u : List ℕ) (p : ℕ) → count t ≤ p → run (table_step n t) p u ≡ p
past_stays n t [] p g = refl
past_stays n t (a ∷ u) p g = ap (λ q. run (table_step n t) q u) (past-idle n t p a g) ∙ past_stays n t u p g

module _ (K : KindModel) (n : ℕ) (t : TableModel) (few : count t ≤ 128) where
  -- the value from p of the word u
  abbrev from : List ℕ → ℕ → ℕ
  from u p = value_of_state K t (run (table_step n t) p u)

  abbrev after : List ℕ → Colouring
  after w = run (codes_onward K n t) (coloured K (count t) (value_of_state K t)) w

  from_past : (u : List ℕ) (p : ℕ) → count t ≤ p → from u p ≡ K.none
  from_past u p g = ap (value_of_state K t) (past_stays n t u p g) ∙ get_or_past t.values p K.none g

  -- a colouring of the states by f, which is none past the last state, has the code f p at every p
  at_all : (f g : ℕ → ℕ) → ((p : ℕ) → f p ≡ g p) → ((p : ℕ) → count t ≤ p → g p ≡ K.none) → (p : ℕ) → get_or (coloured K (count t) f).codes p K.none ≡ g p
  at_all f g same none p =
      elim (cases_lt p (count t)) [
        | inl l ↦ coloured_state K (count t) f few p l ∙ same p
        | inr far ↦ coloured-none K (count t) f p far ∙ sym (none p far)
      ]

  turned : (u : List ℕ) (p : ℕ) → get_or (after (reverse u)).codes p K.none ≡ from u p
  turned [] p = at_all (value_of_state K t) (value_of_state K t) (λ q. refl) (from_past []) p
  turned (a ∷ u) p =
      ap (λ (s : Colouring). get_or s.codes p K.none) (run-reverse (codes_onward K n t) (coloured K (count t) (value_of_state K t)) a u)
      ∙ go (turned u) (cases_lt a n)
    where
      go : ((p : ℕ) → get_or (after (reverse u)).codes p K.none ≡ from u p) → (a < n) ⊎ (n ≤ a) → get_or (codes_onward K n t (after (reverse u)) a).codes p K.none ≡ from (a ∷ u) p
      go rec (inl l) =
          ap (λ (c : Colouring). get_or c.codes p K.none)
          (cond-true (ltb a n) (coloured K (count t) (next_code K n t (after (reverse u)) a)) (after (reverse u)) (lt-ltb a n l))
          ∙ at_all (next_code K n t (after (reverse u)) a) (from (a ∷ u)) (λ q. rec (table_step n t q a)) (from_past (a ∷ u)) p
      go rec (inr g) =
          ap (λ (c : Colouring). get_or c.codes p K.none)
          (cond-false (ltb a n) (coloured K (count t) (next_code K n t (after (reverse u)) a)) (after (reverse u)) (le-ltb a n g))
          ∙ rec p ∙ ap (from u) (sym (table-idle n t p a g))

  pub table-codes : (w : List ℕ) (p : ℕ) → get_or (run (codes_onward K n t) (coloured K (count t) (value_of_state K t)) w).codes p K.none ≡ value_of_state K t (run (table_step n t) p (reverse w))
  table-codes w p = ap (λ v. get_or (after v).codes p K.none) (sym (reverse-reverse w)) ∙ turned (reverse w) p

pub table_view_laws : (K : KindModel) (signs : List ℕ) (ok : sign_fault signs ≡ None) (t : TableModel) → count t ≤ 128 → TableViewLaws K signs ok t
table_view_laws K signs ok t few = record {
  codes = table-codes K (length signs) t few;
  backward = λ w. ap (clean K) (table-codes K (length signs) t few w 0);
  forward = λ h w. clean_is K (value_of_state K t (run (table_step (length signs) t) 0 w)) (h (run (table_step (length signs) t) 0 w));
}
