-- Codes of the states carried back over a letter: what a set weighs after a word, it weighs before it by the codes carried back.
use Rattle.std.proofs.Common.{◌≡◌, ℕ, ◌<◌, Bool, true, cond, ◌&&◌, List, [], ◌∷◌, reverse, get_or, sym, refl, ap, ◌∙◌}
use Rattle.std.proofs.lemmas.Bool.{and_from, and_parts}
use Rattle.kinds.specs.Kinds.{KindModel, join_all}
use Rattle.kinds.proofs.Joins.{Below}
use Rattle.automata.specs.Drafts.{DraftModel, size}
use Rattle.drafts.specs.Words.{tabulate, run, member, onward, entries, reach_from, weigh, value}
use Rattle.drafts.proofs.Tabulates.{get_d_tabulate}
use Rattle.drafts.proofs.Somes.{some-true, true-some}
use Rattle.drafts.proofs.Runs.{run-reverse}
use Rattle.drafts.proofs.Gathers.{gather, Above, gather_is, gather_below, below_gather, gather_admitted}
use Rattle.drafts.proofs.Paths.{member-onward}

-- the code of p becomes the join of the codes c of the states to which the letter a leads from p
abbrev pub backward : KindModel → DraftModel → List ℕ → ℕ → List ℕ
backward K d c a = tabulate (size d) (λ p. join_all K (tabulate (size d) (λ q. cond (d.arrow p a q) (get_or c q K.none) K.none)))

-- the values of the states carried back over a word, from its last letter to its first
abbrev pub ahead : KindModel → DraftModel → List ℕ → List ℕ
ahead K d w = run (backward K d) d.values (reverse w)

module _ (K : KindModel) (d : DraftModel) where
  pub get_or-backward : (c : List ℕ) (a p : ℕ) → p < size d → get_or (backward K d c a) p K.none ≡ gather K (size d) (d.arrow p a) (λ q. get_or c q K.none)
  get_or-backward c a p h = get_d_tabulate (size d) (λ p'. gather K (size d) (d.arrow p' a) (λ q. get_or c q K.none)) p K.none h

  pub weigh-onward : (s : List Bool) (c : List ℕ) (a : ℕ) → weigh K d (onward d s a) c ≡ weigh K d s (backward K d c a)
  weigh-onward s c a = gather_is K m (member (onward d s a)) code (gather K m (member s) after) (gather_admitted K m (member s) after) there back
    where
      m : ℕ
      m = size d

      code : ℕ → ℕ
      code q = get_or c q K.none

      after : ℕ → ℕ
      after p = get_or (backward K d c a) p K.none

      there : (u : ℕ) → K.admits u ≡ true → Above K m (member (onward d s a)) code u → Below K (gather K m (member s) after) u
      there u h k =
          gather_below K m (member s) after u h
          (λ p l e. rw (get_or-backward c a p l) (gather_below K m (d.arrow p a) code u h
          (λ q l' e'. k q l' (member-onward d s a q l' ∙ some-true m (λ p. member s p && d.arrow p a q) p l (and_from (member s p) (d.arrow p a q) e e')))))

      back : (u : ℕ) → K.admits u ≡ true → Below K (gather K m (member s) after) u → Above K m (member (onward d s a)) code u
      back u h k q l e =
          let r = true-some m (λ p. member s p && d.arrow p a q) (sym (member-onward d s a q l) ∙ e) in
          let b = and_parts (member s r.0) (d.arrow r.0 a q) r.2 in
          below_gather K m (d.arrow r.0 a) code u (rw (get_or-backward c a r.0 r.1) at (below_gather K m (member s) after u k r.0 r.1 b.0)) q l b.1

  pub weigh-run : (w : List ℕ) (s : List Bool) (c : List ℕ) → weigh K d (reach_from d s w) c ≡ weigh K d s (run (backward K d) c (reverse w))
  weigh-run [] s c = refl
  weigh-run (a ∷ w) s c =
      weigh-run w (onward d s a) c
      ∙ weigh-onward s (run (backward K d) c (reverse w)) a
      ∙ ap (weigh K d s) (sym (run-reverse (backward K d) c a w))

  -- the value of a word, read from its end
  pub value-backward : (w : List ℕ) → value K d w ≡ weigh K d (entries d) (ahead K d w)
  value-backward w = weigh-run w (entries d) d.values

  pub ahead_cons : (a : ℕ) (w : List ℕ) → ahead K d (a ∷ w) ≡ backward K d (ahead K d w) a
  ahead_cons a w = run-reverse (backward K d) d.values a w
