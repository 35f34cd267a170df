-- The join of the codes of the states that pass a test, and the union of their sets, as a chain over the states makes them.
use Rattle.std.proofs.Common.{◌≡◌, ℕ, zero, suc, ◌+◌, Bool, true, false, cond, ◌&&◌, ◌||◌, sym, refl, ap, ◌∙◌, add-one}
use Rattle.kinds.specs.Kinds.{KindModel, join}
use Rattle.automata.specs.declared.sets.StateSet.{StateSet}
use Rattle.automata.specs.Sets.{has, no_states}
use Rattle.automata.specs.Tests.{some}
use Rattle.automata.proofs.SetLaws.{has-none}
use Rattle.drafts.proofs.Gathers.{gather, gather_in, gather_out}
use Rattle.views.proofs.Chains.{chain, chain-more}
use Rattle.views.proofs.ThoseLaws.{either, has-either}

module _ (K : KindModel) (s : ℕ → Bool) (f : ℕ → ℕ) where
  joined-more : (n x : ℕ) (b : Bool) → s n ≡ b → x ≡ gather K n s f → cond b (join K x (f n)) x ≡ gather K (n + 1) s f
  joined-more n x true e h = ap (λ y. join K y (f n)) h ∙ sym (gather_in K n s f e)
  joined-more n x false e h = h ∙ sym (gather_out K n s f e)

  pub joined : (n : ℕ) → chain (join K) K.none s f n ≡ gather K n s f
  joined zero = refl
  joined (suc n) =
      ap (chain (join K) K.none s f) (sym (add-one n))
      ∙ chain-more (join K) K.none s f n
      ∙ joined-more n (chain (join K) K.none s f n) (s n) refl (joined n)
      ∙ ap (λ k. gather K k s f) (add-one n)

turned : (a b : Bool) → (a || b) ≡ (b || a)
turned true true = refl
turned true false = refl
turned false true = refl
turned false false = refl

module _ (s : ℕ → Bool) (ends : ℕ → StateSet) where
  united-more : (n q : ℕ) (t : StateSet) (b x : Bool) → has t q ≡ x → has (cond b (either t (ends n)) t) q ≡ (b && has (ends n) q || x)
  united-more n q t true x h = has-either t (ends n) q ∙ turned (has t q) (has (ends n) q) ∙ ap (λ y. has (ends n) q || y) h
  united-more n q t false x h = h

  pub has-united : (n q : ℕ) → has (chain either no_states s ends n) q ≡ some n (λ p. s p && has (ends p) q)
  has-united zero q = has-none q
  has-united (suc n) q =
      ap (λ k. has (chain either no_states s ends k) q) (sym (add-one n))
      ∙ ap (λ (t : StateSet). has t q) (chain-more either no_states s ends n)
      ∙ united-more n q (chain either no_states s ends n) (s n) (some n (λ p. s p && has (ends p) q)) (has-united n q)
