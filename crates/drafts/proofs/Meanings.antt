-- What a draft says of a word, from a state, from a set of states and from the entries.
use Rattle.std.proofs.Common.{◌≡◌, ℕ, ◌<◌, Bool, true, ◌||◌, eqb, List, [], ◌∷◌, ◌++◌, get_or, sym, refl, ap, ◌∙◌}
use Rattle.kinds.specs.Kinds.{KindModel, clean, join}
use Rattle.kinds.proofs.Joins.{clean_is, clean_idem}
use Rattle.automata.specs.Drafts.{DraftModel, size}
use Rattle.drafts.specs.Words.{tabulate, member, union, only, entries, onward, reach_from, reach, weigh, value, value_from}
use Rattle.drafts.specs.WordLaws.{WordLaws}
use Rattle.drafts.proofs.Tabulates.{get_d_tabulate}
use Rattle.drafts.proofs.Runs.{run-append}
use Rattle.drafts.proofs.Gathers.{gather, gather_same, gather_one, gather_or, gather_admitted}
use Rattle.drafts.proofs.Paths.{member_union, member-entries, member-only, reach-outside, reached}
use Rattle.drafts.proofs.Backward.{ahead, ahead_cons, get_or-backward, weigh-run}

module _ (K : KindModel) (d : DraftModel) where
  pub weigh-admitted : (s : List Bool) (c : List ℕ) → K.admits (weigh K d s c) ≡ true
  weigh-admitted s c = gather_admitted K (size d) (member s) (λ p. get_or c p K.none)

  pub weigh-union : (s t : List Bool) (c : List ℕ) → weigh K d (union s t) c ≡ join K (weigh K d s c) (weigh K d t c)
  weigh-union s t c =
      gather_same K (size d) (member (union s t)) (λ p. member s p || member t p) code code (λ p l. member_union s t p) (λ p l e. refl)
      ∙ gather_or K (size d) (member s) (member t) code
    where
      code : ℕ → ℕ
      code p = get_or c p K.none

  pub weigh-only : (p : ℕ) (c : List ℕ) → p < size d → weigh K d (only d p) c ≡ clean K (get_or c p K.none)
  weigh-only p c h =
      gather_same K (size d) (member (only d p)) (λ q. eqb q p) code code (member-only d p) (λ q l e. refl)
      ∙ gather_one K (size d) p code h
    where
      code : ℕ → ℕ
      code q = get_or c q K.none

  -- the value of w from p is the code that p has when w has been read backward
  pub from_is : (p : ℕ) (w : List ℕ) → p < size d → value_from K d p w ≡ clean K (get_or (ahead K d w) p K.none)
  from_is p w h = weigh-run K d w (only d p) d.values ∙ weigh-only p (ahead K d w) h

  -- so a join over states may take the one for the other
  pub gather_from : (s : ℕ → Bool) (w : List ℕ) → gather K (size d) s (λ p. get_or (ahead K d w) p K.none) ≡ gather K (size d) s (λ p. value_from K d p w)
  gather_from s w =
      gather_same K (size d) s s (λ p. get_or (ahead K d w) p K.none) (λ p. value_from K d p w) (λ p l. refl)
      (λ p l e. sym (ap (clean K) (from_is p w l) ∙ clean_idem K (get_or (ahead K d w) p K.none)))

  -- the value of w from a set of states is the join of its values from each
  pub weigh_from : (s : List Bool) (w : List ℕ) → weigh K d (reach_from d s w) d.values ≡ gather K (size d) (member s) (λ p. value_from K d p w)
  weigh_from s w = weigh-run K d w s d.values ∙ gather_from (member s) w

  pub in_front_lem : (p a : ℕ) (w : List ℕ) → p < size d → value_from K d p (a ∷ w) ≡ gather K (size d) (d.arrow p a) (λ q. value_from K d q w)
  in_front_lem p a w h =
      from_is p (a ∷ w) h
      ∙ ap (λ c. clean K (get_or c p K.none)) (ahead_cons K d a w)
      ∙ ap (clean K) (get_or-backward K d (ahead K d w) a p h)
      ∙ clean_is K (gather K (size d) (d.arrow p a) code) (gather_admitted K (size d) (d.arrow p a) code)
      ∙ gather_from (d.arrow p a) w
    where
      code : ℕ → ℕ
      code q = get_or (ahead K d w) q K.none

  pub from_entries_lem : (w : List ℕ) → value K d w ≡ gather K (size d) d.entry (λ p. value_from K d p w)
  from_entries_lem w =
      weigh_from (entries d) w
      ∙ gather_same K (size d) (member (entries d)) d.entry (λ p. value_from K d p w) (λ p. value_from K d p w) (member-entries d) (λ p l e. refl)

  pub ending : (u w : List ℕ) → value K d (u ++ w) ≡ weigh K d (reach d u) (tabulate (size d) (λ p. value_from K d p w))
  ending u w =
      ap (λ s. weigh K d s d.values) (run-append (onward d) (entries d) u w)
      ∙ weigh_from (reach d u) w
      ∙ gather_same K (size d) (member (reach d u)) (member (reach d u)) from (λ p. get_or (tabulate (size d) from) p K.none) (λ p l. refl)
      (λ p l e. ap (clean K) (sym (get_d_tabulate (size d) from p K.none l)))
    where
      from : ℕ → ℕ
      from p = value_from K d p w

  pub word_laws : WordLaws K d
  word_laws = record {
    empty = refl;
    behind = λ w a. run-append (onward d) (entries d) w (a ∷ []);
    reached = reached d;
    outside = reach-outside d;
    in_front = in_front_lem;
    from_entries = from_entries_lem;
    ending = ending;
    unions = weigh-union;
    admitted = λ w. weigh-admitted (reach d w) d.values;
    admitted_from = λ q w. weigh-admitted (reach_from d (only d q) w) d.values;
  }
