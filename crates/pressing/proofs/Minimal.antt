-- Tables whose states are told apart by what they say, and that a table built backward of a built one is such a table.
use Rattle.std.proofs.Common.{◌≡◌, ℕ, ◌*◌, ◌<◌, ◌≤◌, true, ltb, List, [], ◌∷◌, reverse, length, get_or, sym, refl, ap, ◌∙◌, subst, inl, inr}
use mathlib.Core.List.{reverse-reverse}
use Rattle.std.proofs.lemmas.List.{get_or_default}
use Rattle.std.proofs.lemmas.Bool.{cases_lt, lt-ltb, le-ltb, cond-true, cond-false}
use Rattle.kinds.specs.Kinds.{KindModel, clean}
use Rattle.kinds.proofs.Joins.{clean_is}
use Rattle.drafts.specs.Words.{Over, run}
use Rattle.drafts.proofs.Runs.{run-reverse, over-reverse}
use Rattle.machines.specs.Models.{MachineModel, alphabet, ends, meaning}
use Rattle.machines.specs.Tables.{TableModel, count, next}
use Rattle.machines.specs.Built.{entry, Built}
use Rattle.machines.proofs.Walks.{ByFirstReach, Inside, walk_inside, follows, leads, lands}
use Rattle.machines.proofs.FirstWords.{built_walked}
use Rattle.machines.proofs.Reading.{built-admitted, table-steps}
use Rattle.views.specs.declared.colouring.Colouring.{Colouring}
use Rattle.views.specs.Colourings.{coloured}
use Rattle.views.specs.TableViews.{value_of_state, next_code, codes_onward, backward_table_model}
use Rattle.views.proofs.ColouredLaws.{coloured-length, coloured_state, coloured-none, coloured_is}

-- what each step by a letter keeps, a run over the letters keeps
run_keeps : {S : Type 0} (n : ℕ) (step : S → ℕ → S) (P : S → Type 0) → ((s : S) (a : ℕ) → a < n → P s → P (step s a)) → (w : List ℕ) (s : S) → Over n w → P s → P (run step s w)
run_keeps n step P f [] s o h = h
run_keeps n step P f (a ∷ w) s o h = run_keeps n step P f w (step s a) o.1 (f s a o.0 h)

-- what state i of t says of a word
abbrev pub says : ℕ → TableModel → ℕ → List ℕ → ℕ
says n t i w = get_or t.values (run (next n t) i w) 0

-- a word leads to i
abbrev pub Led : ℕ → TableModel → ℕ → Type 0
Led n t i = (w : List ℕ) × Over n w × (run (next n t) 0 w ≡ i)

-- numbered by first reach, each state reached, and no two states say the same
pub record Minimal (n : ℕ) (t : TableModel) : Type 0 where
  pub sized : length t.cells ≡ count t * n
  pub some : 0 < count t
  pub inside : Inside n t
  pub order : ByFirstReach n t
  pub led : (i : ℕ) → i < count t → Led n t i
  pub apart : (i j : ℕ) → i < count t → j < count t → ((w : List ℕ) → Over n w → says n t i w ≡ says n t j w) → i ≡ j

module _ {S : Type 0} {m : MachineModel S} {t : TableModel} {xs : List S} (b : Built m t xs) where
  pub says_as : (i : ℕ) (w : List ℕ) → i < count t → Over (alphabet m) w → says (alphabet m) t i w ≡ m.value (run m.step (entry m xs i) w)
  says_as i w h o =
      b.values (run (next (alphabet m) t) i w) (walk_inside (alphabet m) t b.inside i w h o) ∙ ap m.value (sym (follows (built_walked b) i w h o))

  pub says-meaning : (w : List ℕ) → Over (alphabet m) w → says (alphabet m) t 0 w ≡ meaning m w
  says-meaning w o = says_as 0 w b.some o ∙ ap (λ s. m.value (run m.step s w)) (built_walked b).first

  pub built-led : (i : ℕ) → i < count t → Led (alphabet m) t i
  built-led i h =
      let f = b.reached i h in
      (f.0, f.1.0, b.apart (run (next (alphabet m) t) 0 f.0) i (lands (built_walked b) f.0 f.1.0) h (sym (leads (built_walked b) f.0 f.1.0) ∙ f.1.1))

-- A table read backward.
module _ (K : KindModel) (n : ℕ) (t : TableModel) (few : count t ≤ 128) (inside : Inside n t) where
  abbrev code : Colouring → ℕ → ℕ
  code c p = get_or c.codes p K.none

  abbrev start : Colouring
  start = coloured K (count t) (value_of_state K t)

  -- a code in each of the places, and none past the states
  abbrev pub Whole : Colouring → Type 0
  Whole c = (length c.codes ≡ 128) × ((p : ℕ) → count t ≤ p → code c p ≡ K.none)

  whole_is : (c e : Colouring) → Whole c → ((p : ℕ) → p < count t → code c p ≡ code e p) → c ≡ coloured K (count t) (code e)
  whole_is c e w same = coloured_is K (count t) (code e) c w.0 (λ p l. elim (cases_lt p (count t)) [
    | inl h ↦ same p h ∙ sym (cond-true (ltb p (count t)) (code e p) K.none (lt-ltb p (count t) h))
    | inr g ↦ w.1 p g ∙ sym (cond-false (ltb p (count t)) (code e p) K.none (le-ltb p (count t) g))
  ])

  pub whole_same : (c e : Colouring) → Whole c → Whole e → ((p : ℕ) → p < count t → code c p ≡ code e p) → c ≡ e
  whole_same c e w v same = whole_is c e w same ∙ sym (whole_is e e v (λ p l. refl))

  made-whole : (f : ℕ → ℕ) → Whole (coloured K (count t) f)
  made-whole f = (coloured-length K (count t) f, coloured-none K (count t) f)

  stepped : (c : Colouring) (a : ℕ) → a < n → codes_onward K n t c a ≡ coloured K (count t) (next_code K n t c a)
  stepped c a h = cond-true (ltb a n) (coloured K (count t) (next_code K n t c a)) c (lt-ltb a n h)

  step-code : (c : Colouring) (a p : ℕ) → a < n → p < count t → code (codes_onward K n t c a) p ≡ code c (next n t p a)
  step-code c a p h l =
      ap (λ (x : Colouring). code x p) (stepped c a h)
      ∙ coloured_state K (count t) (next_code K n t c a) few p l
      ∙ ap (code c) (table-steps n t p a l h)

  -- a word read backward carries to p the code of the state to which it leads from p
  pub back_read : (p : ℕ) (w : List ℕ) (c : Colouring) → p < count t → Over n w → code (run (codes_onward K n t) c (reverse w)) p ≡ code c (run (next n t) p w)
  back_read p [] c h o = refl
  back_read p (a ∷ w) c h o =
      ap (λ (x : Colouring). code x p) (run-reverse (codes_onward K n t) c a w)
      ∙ step-code (run (codes_onward K n t) c (reverse w)) a p o.0 h
      ∙ back_read (next n t p a) w c (inside p a h o.0) o.1

  pub back_whole : (w : List ℕ) → Over n w → Whole (run (codes_onward K n t) start w)
  back_whole w o = run_keeps n (codes_onward K n t) Whole (λ c a l h. subst Whole (sym (stepped c a l)) (made-whole (next_code K n t c a))) w start o (made-whole (value_of_state K t))

  abbrev Sound : Colouring → Type 0
  Sound c = (p : ℕ) → p < count t → K.admits (code c p) ≡ true

  pub back-admitted : ((p : ℕ) → K.admits (value_of_state K t p) ≡ true) → (w : List ℕ) → Over n w → Sound (run (codes_onward K n t) start w)
  back-admitted all w o =
      run_keeps n (codes_onward K n t) Sound (λ c a l h p k. ap K.admits (step-code c a p l k) ∙ h (next n t p a) (inside p a k l)) w start o
      (λ p k. ap K.admits (coloured_state K (count t) (value_of_state K t) few p k) ∙ all p)

-- a built table read backward says of a word turned round what the machine says of it
pub back-meaning : {S : Type 0} {m : MachineModel S} {b : TableModel} {xs : List S} → Built m b xs → count b ≤ 128
    → (w : List ℕ) → Over (alphabet m) w → meaning (backward_table_model m.kind m.signs m.acceptable b) (reverse w) ≡ meaning m w
back-meaning {m = m} {b = b} first few w o =
    let end = run (next (alphabet m) b) 0 w in
    ap (clean m.kind)
    (back_read m.kind (alphabet m) b few first.inside 0 w (coloured m.kind (count b) (value_of_state m.kind b)) first.some o
    ∙ coloured_state m.kind (count b) (value_of_state m.kind b) few end (lands (built_walked first) w o)
    ∙ get_or_default b.values end m.kind.none 0 (lands (built_walked first) w o)
    ∙ says-meaning first w o)
    ∙ clean_is m.kind (meaning m w) (m.admitted (ends m w))

-- A table t that is built backward of a built table b.
module _ {S : Type 0} {m : MachineModel S} {b : TableModel} {xs : List S} (first : Built m b xs) (few : count b ≤ 128) {t : TableModel} {zs : List Colouring}
    (again : Built (backward_table_model m.kind m.signs m.acceptable b) t zs) where
  abbrev pub rev : MachineModel Colouring
  rev = backward_table_model m.kind m.signs m.acceptable b

  -- the code of p in the state i
  abbrev code_of : ℕ → ℕ → ℕ
  code_of i p = get_or (entry rev zs i).codes p m.kind.none

  row-whole : (i : ℕ) → i < count t → Whole m.kind (alphabet m) b few first.inside (entry rev zs i)
  row-whole i h =
      let f = again.reached i h in
      subst (Whole m.kind (alphabet m) b few first.inside) f.1.1 (back_whole m.kind (alphabet m) b few first.inside f.0 f.1.0)

  code-admitted : (i p : ℕ) → i < count t → p < count b → m.kind.admits (code_of i p) ≡ true
  code-admitted i p h l =
      let f = again.reached i h in
      ap (λ (c : Colouring). m.kind.admits (get_or c.codes p m.kind.none)) (sym f.1.1)
      ∙ back-admitted m.kind (alphabet m) b few first.inside (built-admitted first) f.0 f.1.0 p l

  pub code-says : (i p : ℕ) → i < count t → p < count b → (r : Led (alphabet m) b p) → code_of i p ≡ says (alphabet m) t i (reverse r.0)
  code-says i p h l r =
      sym (clean_is m.kind (code_of i p) (code-admitted i p h l))
      ∙ ap (λ k. clean m.kind (code_of i k)) (sym r.2)
      ∙ ap (clean m.kind) (sym (back_read m.kind (alphabet m) b few first.inside 0 r.0 (entry rev zs i) first.some r.1))
      ∙ sym (says_as again i (reverse r.0) h (over-reverse (alphabet m) r.0 r.1))

  pub back-minimal : Minimal (alphabet m) t
  back-minimal = record {
    sized = again.sized;
    some = again.some;
    inside = again.inside;
    order = (built_walked again).order;
    led = built-led again;
    apart = λ i j h k e.
        again.apart i j h k
        (whole_same m.kind (alphabet m) b few first.inside (entry rev zs i) (entry rev zs j) (row-whole i h) (row-whole j k)
        (λ p l.
        let r = built-led first p l in
        code-says i p h l r ∙ e (reverse r.0) (over-reverse (alphabet m) r.0 r.1) ∙ sym (code-says j p k l r)));
  }

  -- and it says of a word what m says of the word turned round
  pub back-says : (w : List ℕ) → Over (alphabet m) w → says (alphabet m) t 0 w ≡ meaning m (reverse w)
  back-says w o = says-meaning again w o ∙ ap (meaning rev) (sym (reverse-reverse w)) ∙ back-meaning first few (reverse w) (over-reverse (alphabet m) w o)
