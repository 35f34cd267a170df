-- A draft read forward and backward: the machines' states beside the sets and lists of codes that give words their values.
use Rattle.std.proofs.Common.{◌≡◌, ℕ, ◌<◌, ◌≤◌, Bool, true, false, cond, ◌&&◌, ltb, List, [], ◌∷◌, reverse, get_or, None, sym, refl, ap, ◌∙◌, inl, inr, arith}
use mathlib.Core.Path.{fun_ext}
use mathlib.Core.List.{reverse-reverse}
use Rattle.std.proofs.lemmas.Bool.{cases_lt, lt-ltb, le-ltb, and_left, cond-true}
use Rattle.kinds.specs.Kinds.{KindModel, clean, join_all}
use Rattle.kinds.proofs.Joins.{clean_is}
use Rattle.automata.specs.Sets.{has}
use Rattle.automata.specs.Signs.{sign_fault}
use Rattle.automata.specs.Tests.{some}
use Rattle.automata.specs.Drafts.{DraftModel, size, letters, is_letter}
use Rattle.automata.proofs.SetLaws.{has-past}
use Rattle.drafts.specs.Words.{Over, run, tabulate, member, entries, onward, reach, value_from}
use Rattle.drafts.proofs.Tabulates.{get_d_tabulate, get_or_tabulate_past}
use Rattle.drafts.proofs.Gathers.{gather_same, gather_admitted}
use Rattle.drafts.proofs.Paths.{member-entries}
use Rattle.drafts.proofs.Backward.{backward, ahead, get_or-backward, value-backward}
use Rattle.drafts.proofs.Meanings.{from_is}
use Rattle.views.specs.declared.colouring.Colouring.{Colouring}
use Rattle.views.specs.declared.states.Reached.{Reached}
use Rattle.views.specs.Colourings.{coloured}
use Rattle.views.specs.Those.{those, reached_set}
use Rattle.views.specs.DraftViews.{code_of_state, leads_into, set_onward, ends_joined, codes_back}
use Rattle.views.specs.ViewLaws.{DraftViewLaws}
use Rattle.views.proofs.ThoseLaws.{those-has}
use Rattle.views.proofs.ColouredLaws.{coloured_state, coloured-none}

-- a set made by a test has the members of the list of its answers
has-tabulate : (n : ℕ) (f : ℕ → Bool) → n ≤ 32 → (q : ℕ) → has (those n f) q ≡ member (tabulate n f) q
has-tabulate n f few q =
    elim (cases_lt q n) [
      | inl l ↦ those-has n f q (omega arith) ∙ ap (λ b. b && f q) (lt-ltb q n l) ∙ sym (get_d_tabulate n f q false l)
      | inr g ↦ out g ∙ sym (get_or_tabulate_past n f q false g)
    ]
  where
    out : n ≤ q → has (those n f) q ≡ false
    out g = elim (cases_lt q 32) [ inl l ↦ those-has n f q l ∙ and_left (ltb q n) (f q) (le-ltb q n g) | inr far ↦ has-past (those n f) q far ]

module _ (K : KindModel) (d : DraftModel) (few : size d ≤ 32) where
  -- forward, letter by letter
  onward-has : (s : Reached) (l : List Bool) (a : ℕ) → a < letters d → has s.set ≡ member l → has (set_onward d s a).set ≡ member (onward d l a)
  onward-has s l a h e =
      ap (λ (r : Reached). has r.set) (cond-true (is_letter d a) (reached_set (those (size d) (leads_into d s.set a))) s (lt-ltb a (letters d) h))
      ∙ fun_ext (has-tabulate (size d) (leads_into d s.set a) few)
      ∙ ap (λ (m : ℕ → Bool). member (tabulate (size d) (λ q. some (size d) (λ p. m p && d.arrow p a q)))) e

  run-has : (w : List ℕ) (s : Reached) (l : List Bool) → Over (letters d) w → has s.set ≡ member l → has (run (set_onward d) s w).set ≡ member (run (onward d) l w)
  run-has [] s l o e = e
  run-has (a ∷ w) s l o e = run-has w (set_onward d s a) (onward d l a) o.1 (onward-has s l a o.0 e)

  pub reached_is : (w : List ℕ) → Over (letters d) w → has (run (set_onward d) (reached_set (those (size d) d.entry)) w).set ≡ member (reach d w)
  reached_is w o = run-has w (reached_set (those (size d) d.entry)) (entries d) o (fun_ext (has-tabulate (size d) d.entry few))

  -- backward, the codes of the states
  abbrev code : Colouring → ℕ → ℕ
  code s p = get_or s.codes p K.none

  abbrev after : List ℕ → Colouring
  after w = run (codes_back K d) (coloured K (size d) (code_of_state K d)) w

  -- the same code at each state
  abbrev Same : Colouring → List ℕ → Type 0
  Same s c = (p : ℕ) → p < size d → code s p ≡ get_or c p K.none

  stepped : (s : Colouring) (a : ℕ) → a < letters d → codes_back K d s a ≡ coloured K (size d) (ends_joined K d s a)
  stepped s a h = cond-true (is_letter d a) (coloured K (size d) (ends_joined K d s a)) s (lt-ltb a (letters d) h)

  step-code : (s : Colouring) (a : ℕ) → a < letters d → (p : ℕ) → p < size d → code (codes_back K d s a) p ≡ ends_joined K d s a p
  step-code s a h p l = ap (λ (c : Colouring). code c p) (stepped s a h) ∙ coloured_state K (size d) (ends_joined K d s a) (omega arith) p l

  back-same : (s : Colouring) (c : List ℕ) (a : ℕ) → a < letters d → Same s c → Same (codes_back K d s a) (backward K d c a)
  back-same s c a h e p l =
      step-code s a h p l
      ∙ gather_same K (size d) (d.arrow p a) (d.arrow p a) (code s) (λ q. get_or c q K.none) (λ q k. refl) (λ q k t. ap (clean K) (e q k))
      ∙ sym (get_or-backward K d c a p l)

  run-same : (w : List ℕ) (s : Colouring) (c : List ℕ) → Over (letters d) w → Same s c → Same (run (codes_back K d) s w) (run (backward K d) c w)
  run-same [] s c o e = e
  run-same (a ∷ w) s c o e = run-same w (codes_back K d s a) (backward K d c a) o.1 (back-same s c a o.0 e)

  after_same : (w : List ℕ) → Over (letters d) w → Same (after w) (ahead K d (reverse w))
  after_same w o p l =
      run-same w (coloured K (size d) (code_of_state K d)) d.values o (λ q k. coloured_state K (size d) (code_of_state K d) (omega arith) q k) p l
      ∙ ap (λ v. get_or (run (backward K d) d.values v) p K.none) (sym (reverse-reverse w))

  pub draft-counts : (w : List ℕ) → Over (letters d) w → (p : ℕ) → p < size d → clean K (get_or (run (codes_back K d) (coloured K (size d) (code_of_state K d)) w).codes p K.none) ≡ value_from K d p (reverse w)
  draft-counts w o p l = ap (clean K) (after_same w o p l) ∙ sym (from_is K d p (reverse w) l)

  -- codes that are admitted stay so, and after a letter they are
  abbrev Sound : Colouring → Type 0
  Sound s = (p : ℕ) → p < size d → K.admits (code s p) ≡ true

  step-sound : (s : Colouring) (a : ℕ) → a < letters d → Sound (codes_back K d s a)
  step-sound s a h p l = ap K.admits (step-code s a h p l) ∙ gather_admitted K (size d) (d.arrow p a) (code s)

  run_sound : (w : List ℕ) (s : Colouring) → Over (letters d) w → Sound s → Sound (run (codes_back K d) s w)
  run_sound [] s o h = h
  run_sound (a ∷ w) s o h = run_sound w (codes_back K d s a) o.1 (step-sound s a o.0)

  counted : (w : List ℕ) → Over (letters d) w → Sound (after w) → (p : ℕ) → p < size d → code (after w) p ≡ value_from K d p (reverse w)
  counted w o h p l = sym (clean_is K (code (after w) p) (h p l)) ∙ draft-counts w o p l

  start-sound : ((p : ℕ) → p < size d → K.admits (code_of_state K d p) ≡ true) → Sound (coloured K (size d) (code_of_state K d))
  start-sound h p l = ap K.admits (coloured_state K (size d) (code_of_state K d) (omega arith) p l) ∙ h p l

  -- nothing past the last state
  run_past : (w : List ℕ) (s : Colouring) → Over (letters d) w → ((p : ℕ) → size d ≤ p → code s p ≡ K.none) → (p : ℕ) → size d ≤ p → code (run (codes_back K d) s w) p ≡ K.none
  run_past [] s o h = h
  run_past (a ∷ w) s o h =
      run_past w (codes_back K d s a) o.1
      (λ p g. ap (λ (c : Colouring). code c p) (stepped s a o.0) ∙ coloured-none K (size d) (ends_joined K d s a) p g)

  pub draft_view_laws : (ok : sign_fault d.signs ≡ None) → DraftViewLaws K d ok
  draft_view_laws ok = record {
    reached = λ w o q. ap (λ (m : ℕ → Bool). m q) (reached_is w o);
    forward = λ w o. ap (λ (m : ℕ → Bool). join_all K (tabulate (size d) (λ p. cond (m p) (get_or d.values p K.none) K.none))) (reached_is w o);
    counts = draft-counts;
    codes = λ a w o. counted (a ∷ w) o (run_sound w (codes_back K d (coloured K (size d) (code_of_state K d)) a) o.1 (step-sound (coloured K (size d) (code_of_state K d)) a o.0));
    admitted_codes = λ h w o. counted w o (run_sound w (coloured K (size d) (code_of_state K d)) o (start-sound h));
    past = λ w o. run_past w (coloured K (size d) (code_of_state K d)) o (coloured-none K (size d) (code_of_state K d));
    backward = λ w o.
        gather_same K (size d) d.entry (member (entries d)) (code (after w)) (λ p. get_or (ahead K d (reverse w)) p K.none)
        (λ p l. sym (member-entries d p l)) (λ p l e. ap (clean K) (after_same w o p l))
        ∙ sym (value-backward K d (reverse w));
  }
