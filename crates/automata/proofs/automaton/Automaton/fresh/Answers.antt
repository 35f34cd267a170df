use Rattle.std.proofs.Common.{refl, ap, ◌∙◌, arith}
use Rattle.std.proofs.lemmas.Bool.{both_ways}
use Rattle.automata.specs.declared.sets.StateSet.{StateSet}
use Rattle.automata.specs.Sets.{has}
use Rattle.automata.proofs.SetLaws.{has-none}
use Rattle.automata.proofs.RowLaws.{code-none, has-none_at}
use Rattle.automata.proofs.SameDraft.{same-draft}
use Rattle.automata.proofs.automaton.Automaton.fresh.Goals as goal

pub invariant_of-result : goal.invariant_of-result
invariant_of-result c = record {
  few = omega arith;
  wide = refl;
  blank = λ p l. code-none c.blank.result c.blank.ensures p;
  linked = λ p a q h. absurd (both_ways _ (has-none_at c.blank.result c.blank.ensures p a q) h);
  entered = λ p h. absurd (both_ways _ (ap (λ (s : StateSet). has s p) c.empty.ensures ∙ has-none p) h);
}

pub returns : goal.returns
returns c =
    same-draft _ _ refl refl (λ p. ap (λ (s : StateSet). has s p) c.empty.ensures ∙ has-none p) (has-none_at c.blank.result c.blank.ensures)
