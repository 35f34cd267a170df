-- The sets of a draft's entry states, and of the ends of arrows, are sets of its states.
use Rattle.std.proofs.Common.{◌≡◌, ℕ, ◌&&◌, ap, arith}
use Rattle.std.proofs.lemmas.Bool.{and_parts}
use Rattle.automata.specs.declared.sets.StateSet.{StateSet}
use Rattle.automata.specs.declared.automaton.Automaton.{Automaton}
use Rattle.automata.specs.Sets.{has}
use Rattle.automata.specs.Drafts.{size}
use Rattle.automata.specs.Shown.{shown}
use Rattle.automata.proofs.ShownLaws.{shown-size}
use Rattle.drafts.proofs.Somes.{true-some}
use Rattle.views.specs.DraftViews.{leads_into}
use Rattle.views.specs.Those.{those, reached_set}
use Rattle.views.proofs.ThoseLaws.{those_all}

module _ (d : Automaton) (s : StateSet) where
  pub entries_are : ((p : ℕ) → has s p ≡ (shown d).entry p) → s ≡ those (size (shown d)) (shown d).entry
  entries_are h = those_all (size (shown d)) (shown d).entry s h (λ q e. omega (arith, shown-size d, d.entered q e))

  -- the state of a machine that has read nothing
  pub started : ((p : ℕ) → has s p ≡ (shown d).entry p) → reached_set s ≡ reached_set (those (size (shown d)) (shown d).entry)
  started h = ap reached_set (entries_are h)

  pub ends_are : (t : StateSet) (a : ℕ) → ((q : ℕ) → has s q ≡ leads_into (shown d) t a q) → s ≡ those (size (shown d)) (leads_into (shown d) t a)
  ends_are t a h = those_all (size (shown d)) (leads_into (shown d) t a) s h
      (λ q e. let r = true-some (size (shown d)) (λ p. has t p && (shown d).arrow p a q) e in
      let l = (d.linked r.0 a q (and_parts (has t r.0) _ r.2).1).2 in omega (arith, shown-size d))
