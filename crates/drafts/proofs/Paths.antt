-- The states that a word reaches are the ends of its paths.
use Rattle.std.proofs.Common.{◌≡◌, ℕ, zero, suc, ◌<◌, ◌≤◌, Bool, true, false, ◌&&◌, ◌||◌, eqb, ◌↔◌, List, [], ◌∷◌, length, get_or, sym, refl, ap, ◌∙◌, ⊎_elim}
use Rattle.std.proofs.lemmas.List.{get_or_past}
use Rattle.std.proofs.lemmas.Bool.{and_from, and_parts, both_ways, cases_lt}
use Rattle.automata.specs.Tests.{some}
use Rattle.automata.specs.Drafts.{DraftModel, size}
use Rattle.drafts.specs.Words.{member, union, only, entries, onward, reach_from, reach, Path}
use Rattle.drafts.proofs.Tabulates.{length-tabulate, get_d_tabulate}
use Rattle.drafts.proofs.Somes.{some-true, true-some}

pub member_union : (s t : List Bool) (q : ℕ) → member (union s t) q ≡ (member s q || member t q)
member_union [] t q = refl
member_union (true ∷ s) [] zero = refl
member_union (false ∷ s) [] zero = refl
member_union (x ∷ s) [] (suc q) = right (get_or s q false)
  where
    right : (b : Bool) → b ≡ (b || false)
    right true = refl
    right false = refl
member_union (x ∷ s) (y ∷ t) zero = refl
member_union (x ∷ s) (y ∷ t) (suc q) = member_union s t q

module _ (d : DraftModel) where
  pub member-onward : (s : List Bool) (a q : ℕ) → q < size d → member (onward d s a) q ≡ some (size d) (λ p. member s p && d.arrow p a q)
  member-onward s a q h = get_d_tabulate (size d) (λ q'. some (size d) (λ p. member s p && d.arrow p a q')) q false h

  pub member-entries : (p : ℕ) → p < size d → member (entries d) p ≡ d.entry p
  member-entries p h = get_d_tabulate (size d) d.entry p false h

  pub member-only : (p q : ℕ) → q < size d → member (only d p) q ≡ eqb q p
  member-only p q h = get_d_tabulate (size d) (λ x. eqb x p) q false h

  pub entries-length : length (entries d) ≡ size d
  entries-length = length-tabulate (size d) d.entry

  -- a set that a word reaches has a Bool for each state, and no more
  pub reach_from-length : (w : List ℕ) (s : List Bool) → length s ≡ size d → length (reach_from d s w) ≡ size d
  reach_from-length [] s h = h
  reach_from-length (a ∷ w) s h = reach_from-length w (onward d s a) (length-tabulate (size d) (λ q. some (size d) (λ p. member s p && d.arrow p a q)))

  pub reach-length : (w : List ℕ) → length (reach d w) ≡ size d
  reach-length w = reach_from-length w (entries d) entries-length

  -- where s has a Bool for each state, no other number is a member of what is reached
  pub reach_from-outside : (w : List ℕ) (s : List Bool) → length s ≡ size d → (q : ℕ) → size d ≤ q → member (reach_from d s w) q ≡ false
  reach_from-outside w s l q h = get_or_past (reach_from d s w) q false (rw (reach_from-length w s l) h)

  pub reach-outside : (w : List ℕ) (q : ℕ) → size d ≤ q → member (reach d w) q ≡ false
  reach-outside w = reach_from-outside w (entries d) entries-length

  pub reach_from-inside : (w : List ℕ) (s : List Bool) → length s ≡ size d → (q : ℕ) → member (reach_from d s w) q ≡ true → q < size d
  reach_from-inside w s l q e =
      ⊎_elim (λ h. h) (λ h. absurd (both_ways (member (reach_from d s w) q) (reach_from-outside w s l q h) e)) (cases_lt q (size d))

  -- a member of what a word reaches from s ends a path from a member of s
  pub path_to : (w : List ℕ) (s : List Bool) (q : ℕ) → q < size d → member (reach_from d s w) q ≡ true
      → (p : ℕ) × (p < size d) × (member s p ≡ true) × Path d p w q
  path_to [] s q h e = (q, h, e, refl)
  path_to (a ∷ w) s q h e =
      let r = path_to w (onward d s a) q h e in
      let t = true-some (size d) (λ p. member s p && d.arrow p a r.0) (sym (member-onward s a r.0 r.1) ∙ r.2) in
      let b = and_parts (member s t.0) (d.arrow t.0 a r.0) t.2 in
      (t.0, t.1, b.0, (r.0, r.1, b.1, r.3))

  -- and the end of such a path is reached
  pub path_reaches : (w : List ℕ) (s : List Bool) (p q : ℕ) → p < size d → member s p ≡ true → Path d p w q → member (reach_from d s w) q ≡ true
  path_reaches [] s p q h e r = ap (member s) (sym r) ∙ e
  path_reaches (a ∷ w) s p q h e r =
      path_reaches w (onward d s a) r.0 q r.1
      (member-onward s a r.0 r.1 ∙ some-true (size d) (λ p'. member s p' && d.arrow p' a r.0) p h (and_from (member s p) (d.arrow p a r.0) e r.2))
      r.3

  pub reached : (w : List ℕ) (q : ℕ) → (member (reach d w) q ≡ true) ↔ ((p : ℕ) × (p < size d) × (d.entry p ≡ true) × Path d p w q)
  reached w q = (
    λ e. let r = path_to w (entries d) q (reach_from-inside w (entries d) entries-length q e) e in (r.0, r.1, sym (member-entries r.0 r.1) ∙ r.2, r.3),
    λ r. path_reaches w (entries d) r.0 q r.1 (member-entries r.0 r.1 ∙ r.2) r.3,
  )
