-- When a machine reaches as few states as the minimal table has: words that are not told apart lead to one state.
use Rattle.std.proofs.Common.{◌≡◌, ℕ, ◌<◌, false, ◌↔◌, List, ◌++◌, None, sym, ap, ◌∙◌, arith, ext_get_or}
use Rattle.kinds.specs.Kinds.{KindModel}
use Rattle.automata.specs.Signs.{sign_fault}
use Rattle.automata.specs.Sets.{has}
use Rattle.automata.proofs.SetLaws.{same_members}
use Rattle.automata.specs.Drafts.{DraftModel, letters}
use Rattle.drafts.specs.Words.{Over, run, member, reach, value}
use Rattle.drafts.proofs.Runs.{over-append}
use Rattle.drafts.proofs.Paths.{reach-length}
use Rattle.machines.specs.Models.{MachineModel, alphabet, ends, meaning}
use Rattle.machines.specs.Tables.{TableModel, count, next}
use Rattle.machines.specs.Built.{entry, Built}
use Rattle.machines.proofs.Walks.{walk_inside, leads, lands}
use Rattle.machines.proofs.FirstWords.{built_walked}
use Rattle.machines.proofs.Counting.{built-most}
use Rattle.machines.proofs.Injections.{Into, OneToOne, no_fewer, onto}
use Rattle.views.specs.declared.states.Reached.{Reached}
use Rattle.views.specs.Those.{reached_set}
use Rattle.views.specs.DraftViews.{forward_draft_model}
use Rattle.pressing.specs.Sources.{Made}
use Rattle.pressing.specs.Press.{Residual}
use Rattle.pressing.proofs.Minimal.{built-led}
use Rattle.pressing.proofs.Outcomes.{Outcome, views, words, one_state, state_one, futures, spread}

module _ {S : Type 0} {m : MachineModel S} {o t : TableModel} {xs : List S} {f : List ℕ → ℕ} (b : Built m o xs) (out : Outcome (alphabet m) t f)
    (agree : (w : List ℕ) → Over (alphabet m) w → meaning m w ≡ f w) where
  -- words lead to one state of o exactly if they do in m
  ends-one : (u v : List ℕ) → Over (alphabet m) u → Over (alphabet m) v → run (next (alphabet m) o) 0 u ≡ run (next (alphabet m) o) 0 v → ends m u ≡ ends m v
  ends-one u v h k e = leads (built_walked b) u h ∙ ap (entry m xs) e ∙ sym (leads (built_walked b) v k)

  one_end : (u v : List ℕ) → Over (alphabet m) u → Over (alphabet m) v → ends m u ≡ ends m v → run (next (alphabet m) o) 0 u ≡ run (next (alphabet m) o) 0 v
  one_end u v h k e =
      b.apart (run (next (alphabet m) o) 0 u) (run (next (alphabet m) o) 0 v) (lands (built_walked b) u h) (lands (built_walked b) v k)
      (sym (leads (built_walked b) u h) ∙ e ∙ leads (built_walked b) v k)

  abbrev go-o : List ℕ → ℕ
  go-o w = run (next (alphabet m) o) 0 w

  abbrev go-t : List ℕ → ℕ
  go-t w = run (next (alphabet m) t) 0 w

  -- a state of o lies over one of t
  over-one : (u v : List ℕ) → Over (alphabet m) u → Over (alphabet m) v → go-o u ≡ go-o v → go-t u ≡ go-t v
  over-one u v h k e = one_state out u v h k (λ w q.
      sym (agree (u ++ w) (over-append (alphabet m) u w h q)) ∙ futures m u v (ends-one u v h k e) w ∙ agree (v ++ w) (over-append (alphabet m) v w k q))

  abbrev Told : Type 0
  Told = (u v : List ℕ) → Over (alphabet m) u → Over (alphabet m) v → ((w : List ℕ) → Over (alphabet m) w → f (u ++ w) ≡ f (v ++ w)) → ends m u ≡ ends m v

  there : count o ≡ count t → Told
  there e u v h k g = ends-one u v h k (sym (at u h).1 ∙ ap (λ j. go-o (r.0 j)) ((at u h).2 ∙ one_state out u v h k g ∙ sym (at v k).2) ∙ (at v k).1)
    where
      r : (word : ℕ → List ℕ) × ((i : ℕ) → i < count t → Over (alphabet m) (word i) × (run (next (alphabet m) t) 0 (word i) ≡ i))
      r = words (alphabet m) t out.minimal.led

      into : Into (count t) (count t) (λ j. go-o (r.0 j))
      into j h = rw (← e) (lands (built_walked b) (r.0 j) (r.1 j h).0)

      one : OneToOne (count t) (λ j. go-o (r.0 j))
      one i j h k x = sym (r.1 i h).1 ∙ over-one (r.0 i) (r.0 j) (r.1 i h).0 (r.1 j k).0 x ∙ (r.1 j k).1

      at : (w : List ℕ) → Over (alphabet m) w → (j : ℕ) × (go-o (r.0 j) ≡ go-o w) × (j ≡ go-t w)
      at w l =
          let x = onto (count t) (λ j. go-o (r.0 j)) into one (go-o w) (rw (← e) (lands (built_walked b) w l)) in
          (x.0, x.2, sym (r.1 x.0 x.1).1 ∙ over-one (r.0 x.0) w (r.1 x.0 x.1).0 l x.2)

  back : Told → count o ≡ count t
  back told =
      let s = words (alphabet m) o (built-led b) in
      let less = no_fewer (count o) (count t) (λ i. go-t (s.0 i))
      (λ i h. walk_inside (alphabet m) t out.minimal.inside 0 (s.0 i) out.minimal.some (s.1 i h).0)
      (λ i j h k e.
      let oi = (s.1 i h).0 in
      let oj = (s.1 j k).0 in
      sym (s.1 i h).1 ∙ one_end (s.0 i) (s.0 j) oi oj (told (s.0 i) (s.0 j) oi oj (state_one out (s.0 i) (s.0 j) oi oj e)) ∙ (s.1 j k).1) in
      omega (arith, less, built-most b (count t) (spread m out agree))

  pub as_many : (count o ≡ count t) ↔ Told
  as_many = (there, back)

module _ (K : KindModel) (d : DraftModel) (ok : sign_fault d.signs ≡ None) (made : Made K d) where
  abbrev set_after : List ℕ → Reached
  set_after w = ends (forward_draft_model K d ok) w

  -- words lead to one set exactly if they reach the same states
  set-reach : (u v : List ℕ) → Over (letters d) u → Over (letters d) v → set_after u ≡ set_after v → reach d u ≡ reach d v
  set-reach u v h k e =
      ext_get_or false (reach d u) (reach d v) (reach-length d u ∙ sym (reach-length d v))
      (λ q l. sym ((views K d ok made).reached u h q) ∙ ap (λ (r : Reached). has r.set q) e ∙ (views K d ok made).reached v k q)

  reach-set : (u v : List ℕ) → Over (letters d) u → Over (letters d) v → reach d u ≡ reach d v → set_after u ≡ set_after v
  reach-set u v h k e =
      ap reached_set (same_members (set_after u).set (set_after v).set
      (λ q. (views K d ok made).reached u h q ∙ ap (λ s. member s q) e ∙ sym ((views K d ok made).reached v k q)))

  -- the sets that a draft reaches are as few as can be exactly if the draft is residual
  pub residual_iff : {o t : TableModel} {sets : List Reached} → Built (forward_draft_model K d ok) o sets → Outcome (letters d) t (value K d) → (count o ≡ count t) ↔ Residual K d
  residual_iff b out =
      let r = as_many b out (views K d ok made).forward in (
        λ e u v h k g. set-reach u v h k (r.0 e u v h k g),
        λ res. r.1 (λ u v h k g. reach-set u v h k (res u v h k g)),
      )
