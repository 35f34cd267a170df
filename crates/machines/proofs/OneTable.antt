-- Machines that are alike have one table, and a machine has one list of states.
use Rattle.std.proofs.Common.{◌≡◌, ℕ, ◌*◌, ◌<◌, List, [], ◌∷◌, ◌++◌, length, sym, refl, ap, ◌∙◌, subst, ext_get_or}
use Rattle.drafts.specs.Words.{Over}
use Rattle.drafts.proofs.Runs.{run-append, over-append}
use Rattle.machines.specs.Models.{MachineModel, alphabet, ends}
use Rattle.machines.specs.Tables.{TableModel, count, next}
use Rattle.machines.specs.Built.{entry, Built}
use Rattle.machines.specs.BuildLaws.{Alike}
use Rattle.machines.proofs.Walks.{ByFirstReach, Walked}
use Rattle.machines.proofs.FirstWords.{built_walked}
use Rattle.machines.proofs.Lockstep.{Tied, lock, tied_count, tied_table}

module _ {S R : Type 0} {m : MachineModel S} {k : MachineModel R} (like : Alike m k)
    {t u : TableModel} {xs : List S} {ys : List R} (bt : Walked m t xs) (bu : Walked k u ys) where
  letters : alphabet k ≡ alphabet m
  letters = ap length (sym like.signs)

  -- some word leads to i in t and to j in u
  abbrev Met : ℕ → ℕ → Type 0
  Met i j = (i < count t) × (j < count u) × ((w : List ℕ) × Over (alphabet m) w × (ends m w ≡ entry m xs i) × (ends k w ≡ entry k ys j))

  met : Tied (alphabet m) t u Met
  met = record {
    left = λ i j r. r.0;
    right = λ i j r. r.1;
    base = (bt.some, bu.some, ([], tt, sym bt.first, sym bu.first));
    step = λ i j a r h.
        let h' : a < alphabet k = rw letters h in
        let w = r.2.0 in (
          bt.inside i a r.0 h,
          subst (λ n. next n u j a < count u) letters (bu.inside j a r.1 h'),
          (
            w ++ a ∷ [],
            over-append (alphabet m) w (a ∷ []) r.2.1 (h, tt),
            run-append m.step m.start w (a ∷ []) ∙ ap (λ s. m.step s a) r.2.2 ∙ bt.moves i a r.0 h,
            run-append k.step k.start w (a ∷ []) ∙ ap (λ s. k.step s a) r.2.3 ∙ bu.moves j a r.1 h' ∙ ap (λ n. entry k ys (next n u j a)) letters,
          ),
        );
    one_right = λ i j l r s. bu.apart j l r.1 s.1
        (sym r.2.3 ∙ (like.together r.2.0 s.2.0 r.2.1 s.2.1).0 (r.2.2 ∙ sym s.2.2) ∙ s.2.3);
    one_left = λ i j l r s. bt.apart i j r.0 s.0
        (sym r.2.2 ∙ (like.together r.2.0 s.2.0 r.2.1 s.2.1).1 (r.2.3 ∙ sym s.2.3) ∙ s.2.2);
  }

  order : ByFirstReach (alphabet m) u
  order = subst (λ n. ByFirstReach n u) letters bu.order

  -- states of one number are met by one word
  both-met : (i : ℕ) → i < count t → Met i i
  both-met = lock met bt.order order

  same_count : count t ≡ count u
  same_count = tied_count met bt.order order

  same-table : t ≡ u
  same-table = tied_table met bt.order order bt.sized (bu.sized ∙ ap (λ n. count u * n) letters)
      (λ i r. bt.values i r.0 ∙ ap m.value (sym r.2.2) ∙ like.says r.2.0 r.2.1 ∙ ap k.value r.2.3 ∙ sym (bu.values i r.1))

pub alike-table : {S R : Type 0} {m : MachineModel S} {k : MachineModel R} {t u : TableModel} {xs : List S} {ys : List R}
    → Alike m k → Built m t xs → Built k u ys → t ≡ u
alike-table like bt bu = same-table like (built_walked bt) (built_walked bu)

module _ {S : Type 0} {m : MachineModel S} {t u : TableModel} {xs ys : List S} (bt : Built m t xs) (bu : Built m u ys) where
  itself : Alike m m
  itself = record { signs = refl; together = λ u v o p. (λ e. e, λ e. e); says = λ w o. refl }

  pub one_table : t ≡ u
  one_table = alike-table itself bt bu

  pub one_list : xs ≡ ys
  one_list =
      ext_get_or m.start xs ys (bt.states ∙ same_count itself (built_walked bt) (built_walked bu) ∙ sym bu.states)
      (λ i h. let r = both-met itself (built_walked bt) (built_walked bu) i (rw bt.states at h) in sym r.2.2 ∙ r.2.3)
