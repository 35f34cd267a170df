-- A table is walked exactly if it is built: the first cells of the states spell their first words.
use Rattle.std.proofs.Common.{◌≡◌, ℕ, zero, suc, ◌+◌, ◌*◌, ◌<◌, ◌≤◌, ◌⊎◌, List, [], ◌∷◌, ◌++◌, get_or, sym, ap, ◌∙◌, subst, inl, inr, arith}
use Rattle.std.proofs.lemmas.Bool.{cases_lt, cases_order}
use Rattle.drafts.specs.Words.{Over, run}
use Rattle.drafts.proofs.Runs.{run-append, over-append}
use Rattle.machines.specs.Models.{MachineModel, alphabet, ends}
use Rattle.machines.specs.Tables.{TableModel, count, next}
use Rattle.machines.specs.Built.{Sooner, FirstWord, entry, Built}
use Rattle.machines.proofs.Numbers.{strong, split_top, divide, row_fits, cell-order}
use Rattle.machines.proofs.Orders.{sooner_irrefl, sooner_asym, empty-first, none_before_empty, sooner_push, sooner_final, sooner_more, up_to}
use Rattle.machines.proofs.Walks.{FirstCell, Walked, leads, lands}

-- A word is empty or ends in a letter.
pub data Parts : List ℕ → Type 0 where
  empty : Parts []
  push : (u : List ℕ) (a : ℕ) → Parts (u ++ a ∷ [])

pub parts : (w : List ℕ) → Parts w
parts [] = empty
parts (a ∷ w) = longer (parts w)
  where
    longer : {w : List ℕ} → Parts w → Parts (a ∷ w)
    longer empty = push [] a
    longer (push u b) = push (a ∷ u) b

over-left : (n : ℕ) (u w : List ℕ) → Over n (u ++ w) → Over n u
over-left n [] w o = tt
over-left n (a ∷ u) w o = (o.0, over-left n u w o.1)

over-right : (n : ℕ) (u w : List ℕ) → Over n (u ++ w) → Over n w
over-right n [] w o = o
over-right n (a ∷ u) w o = over-right n u w o.1

-- a state has one first word
pub one-first : {S : Type 0} (m : MachineModel S) (s : S) (u v : List ℕ) → FirstWord m s u → FirstWord m s v → u ≡ v
one-first m s u v f g = go (f.2 v g.0 g.1) (g.2 u f.0 f.1)
  where
    go : (u ≡ v) ⊎ Sooner u v → (v ≡ u) ⊎ Sooner v u → u ≡ v
    go (inl e) r = e
    go (inr h) (inl e) = sym e
    go (inr h) (inr k) = absurd (sooner_asym u v h k)

module _ {S : Type 0} {m : MachineModel S} {t : TableModel} {xs : List S} (b : Walked m t xs) where
  -- w leads to i, and comes first of all words that lead to i or to a later state
  abbrev Leads : ℕ → List ℕ → Type 0
  Leads i w = Over (alphabet m) w × (ends m w ≡ entry m xs i)
      × ((v : List ℕ) → Over (alphabet m) v → (q : ℕ) → i ≤ q → q < count t → ends m v ≡ entry m xs q → (w ≡ v) ⊎ Sooner w v)

  lead-step : (i : ℕ) → ((j : ℕ) → j < i → j < count t → (w : List ℕ) × Leads j w) → i < count t → (w : List ℕ) × Leads i w
  lead-step zero ih h = ([], (tt, sym b.first, λ v o q l k e. empty-first v))
  lead-step (suc i) ih h = (w, (over, here, λ v o q l k e. least (parts v) o q l k e))
    where
      c : (k : ℕ) × (k < suc i * alphabet m) × FirstCell t.cells (suc i) k
      c = b.order (suc i) (omega arith) h

      r : (p : ℕ) × (a : ℕ) × (p < suc i) × (a < alphabet m) × (p * alphabet m + a ≡ c.0)
      r = divide (alphabet m) (suc i) c.0 c.1

      p : ℕ
      p = r.0

      a : ℕ
      a = r.1

      p-in : p < count t
      p-in = omega (arith, r.2)

      f : (w : List ℕ) × Leads p w
      f = ih p r.2 p-in

      w : List ℕ
      w = f.0 ++ (a ∷ [])

      over : Over (alphabet m) w
      over = over-append (alphabet m) f.0 (a ∷ []) f.1.0 (r.3, tt)

      here : ends m w ≡ entry m xs (suc i)
      here =
          run-append m.step m.start f.0 (a ∷ []) ∙ ap (λ s. m.step s a) f.1.1 ∙ b.moves p a p-in r.3
          ∙ ap (entry m xs) (ap (λ k. get_or t.cells k 0) r.4 ∙ c.2.0)

      -- w beside a word u with the letter b behind it, where u comes no sooner than the word of p
      beside : (u : List ℕ) (b : ℕ) → (f.0 ≡ u) ⊎ Sooner f.0 u → (f.0 ≡ u → a ≤ b) → (w ≡ u ++ b ∷ []) ⊎ Sooner w (u ++ b ∷ [])
      beside u b (inr h) g = inr (sooner_push f.0 u a b h)
      beside u b (inl e) g = go (split_top a b (omega (arith, g e)))
        where
          go : (a < b) ⊎ (a ≡ b) → (w ≡ u ++ b ∷ []) ⊎ Sooner w (u ++ b ∷ [])
          go (inl l) = inr (subst (λ x. Sooner w (x ++ b ∷ [])) e (sooner_final f.0 a b l))
          go (inr l) = inl (ap (λ x. x ++ a ∷ []) e ∙ ap (λ x. u ++ x ∷ []) l)

      least : {v : List ℕ} → Parts v → Over (alphabet m) v → (q : ℕ) → suc i ≤ q → q < count t → ends m v ≡ entry m xs q → (w ≡ v) ⊎ Sooner w v
      least empty o q l k e = let z : ⊥ = omega (arith, b.apart 0 q b.some k (b.first ∙ e)) in absurd z
      least (push u d) o q l k e = beside u d (f.1.2 u ou y (row place) y-in (leads b u ou)) (letter place)
        where
          ou : Over (alphabet m) u
          ou = over-left (alphabet m) u (d ∷ []) o

          d-in : d < alphabet m
          d-in = (over-right (alphabet m) u (d ∷ []) o).0

          y : ℕ
          y = run (next (alphabet m) t) 0 u

          y-in : y < count t
          y-in = lands b u ou

          names : next (alphabet m) t y d ≡ q
          names = b.apart (next (alphabet m) t y d) q (b.inside y d y-in d-in) k
              (sym (b.moves y d y-in d-in) ∙ ap (λ s. m.step s d) (sym (leads b u ou)) ∙ sym (run-append m.step m.start u (d ∷ [])) ∙ e)

          before : p * alphabet m + a ≤ y * alphabet m + d
          before = elim (cases_lt (y * alphabet m + d) (p * alphabet m + a)) [
            | inl g ↦ let z : ⊥ = omega (arith, c.2.1 (y * alphabet m + d) (omega (arith, r.4)), names) in absurd z
            | inr g ↦ g
          ]

          place : (p < y) ⊎ ((p ≡ y) × (a ≤ d))
          place = cell-order (alphabet m) p y a d r.3 d-in before

          row : (p < y) ⊎ ((p ≡ y) × (a ≤ d)) → p ≤ y
          row (inl g) = omega arith
          row (inr g) = omega (arith, g.0)

          letter : (p < y) ⊎ ((p ≡ y) × (a ≤ d)) → f.0 ≡ u → a ≤ d
          letter (inl g) same = let z : ⊥ = omega (arith, b.apart p y p-in y-in (sym f.1.1 ∙ ap (ends m) same ∙ leads b u ou)) in absurd z
          letter (inr g) same = g.1

  -- the first word of each state
  first_word : (i : ℕ) → i < count t → (w : List ℕ) × Leads i w
  first_word = strong (λ i. i < count t → (w : List ℕ) × Leads i w) lead-step

  is-first : (i : ℕ) (w : List ℕ) → i < count t → Leads i w → FirstWord m (entry m xs i) w
  is-first i w h f = (f.0, f.1, λ v o e. f.2 v o i (omega arith) h e)

  in_order : (i j : ℕ) → i < j → j < count t → (u v : List ℕ) → FirstWord m (entry m xs i) u → FirstWord m (entry m xs j) v → Sooner u v
  in_order i j l h u v fu fv =
      let hi : i < count t = omega arith in
      let f = first_word i hi in
      let e = one-first m (entry m xs i) u f.0 fu (is-first i f.0 hi f.1) in
      go f.0 e (f.1.2 v fv.0 j (omega arith) h fv.1)
    where
      go : (w : List ℕ) → u ≡ w → (w ≡ v) ⊎ Sooner w v → Sooner u v
      go w e (inl g) = let z : ⊥ = omega (arith, b.apart i j (omega arith) h (sym fu.1 ∙ ap (ends m) (e ∙ g) ∙ fv.1)) in absurd z
      go w e (inr g) = subst (λ x. Sooner x v) (sym e) g

  pub walked_built : Built m t xs
  walked_built = record {
    states = b.states;
    sized = b.sized;
    some = b.some;
    reached = λ i h. let f = first_word i h in (f.0, is-first i f.0 h f.1);
    all = λ w o. (run (next (alphabet m) t) 0 w, lands b w o, sym (leads b w o));
    apart = b.apart;
    order = in_order;
    inside = b.inside;
    moves = b.moves;
    values = b.values;
  }

module _ {S : Type 0} {m : MachineModel S} {t : TableModel} {xs : List S} (b : Built m t xs) where
  -- what a word sooner than the first word of i leads to comes before i
  earlier : (i j : ℕ) (v w : List ℕ) → i < count t → j < count t → FirstWord m (entry m xs i) w → Over (alphabet m) v → ends m v ≡ entry m xs j → Sooner v w → j < i
  earlier i j v w hi hj f o e h = go (cases_order i j)
    where
      go : (i ≡ j) ⊎ ((i < j) ⊎ (j < i)) → j < i
      go (inl g) = absurd (sooner_asym v w h (up-to-same (f.2 v o (e ∙ ap (entry m xs) (sym g)))))
        where
          up-to-same : (w ≡ v) ⊎ Sooner w v → Sooner w v
          up-to-same (inl x) = absurd (sooner_irrefl v (subst (Sooner v) x h))
          up-to-same (inr x) = x
      go (inr (inl l)) =
          let y = b.reached j hj in
          absurd (sooner_asym v w h (up_to w y.0 v (b.order i j l hj w y.0 f y.1) (y.1.2 v o e)))
      go (inr (inr l)) = l

  starts : entry m xs 0 ≡ m.start
  starts = go (b.all [] tt)
    where
      go : (i : ℕ) × (i < count t) × (entry m xs i ≡ m.start) → entry m xs 0 ≡ m.start
      go r = at r.0 r.1 r.2
        where
          at : (i : ℕ) → i < count t → entry m xs i ≡ m.start → entry m xs 0 ≡ m.start
          at zero h e = e
          at (suc i) h e =
              let f = b.reached 0 b.some in
              absurd (none_before_empty f.0 (b.order 0 (suc i) (omega arith) h f.0 [] f.1 (tt, sym e, λ v o _. empty-first v)))

  by-first-reach : (i : ℕ) → 0 < i → i < count t → (k : ℕ) × (k < i * alphabet m) × FirstCell t.cells i k
  by-first-reach i pos h = let f = b.reached i h in go (parts f.0) f.1
    where
      go : {w : List ℕ} → Parts w → FirstWord m (entry m xs i) w → (k : ℕ) × (k < i * alphabet m) × FirstCell t.cells i k
      go empty f = let z : ⊥ = omega (arith, b.apart 0 i b.some h (starts ∙ f.1)) in absurd z
      go (push u a) f = (p * alphabet m + a, row_fits (alphabet m) i p a a_in p-before, (names, sooner))
        where
          ou : Over (alphabet m) u
          ou = over-left (alphabet m) u (a ∷ []) f.0

          a_in : a < alphabet m
          a_in = (over-right (alphabet m) u (a ∷ []) f.0).0

          p : ℕ
          p = (b.all u ou).0

          p-in : p < count t
          p-in = (b.all u ou).1

          p-is : entry m xs p ≡ ends m u
          p-is = (b.all u ou).2

          p-before : p < i
          p-before = earlier i p u (u ++ a ∷ []) h p-in f ou (sym p-is) (sooner_more u a)

          names : next (alphabet m) t p a ≡ i
          names = b.apart (next (alphabet m) t p a) i (b.inside p a p-in a_in) h
              (sym (b.moves p a p-in a_in) ∙ ap (λ s. m.step s a) p-is ∙ sym (run-append m.step m.start u (a ∷ [])) ∙ f.1)

          -- the first word of a row that comes no later, with its letter, comes before
          precedes : (q d : ℕ) (v : List ℕ) → FirstWord m (entry m xs q) v → q * alphabet m + d < p * alphabet m + a → d < alphabet m → Sooner (v ++ d ∷ []) (u ++ a ∷ [])
          precedes q d v fv l d-in = by (cell-order (alphabet m) q p d a d-in a_in (omega arith)) (b.reached p p-in)
            where
              by : (q < p) ⊎ ((q ≡ p) × (d ≤ a)) → (y : List ℕ) × FirstWord m (entry m xs p) y → Sooner (v ++ d ∷ []) (u ++ a ∷ [])
              by (inl g) y = sooner_push v u d a (up_to v y.0 u (b.order q p g p-in v y.0 fv y.1) (y.1.2 u ou (sym p-is)))
              by (inr g) y = same (fv.2 u ou (sym p-is ∙ ap (entry m xs) (sym g.0)))
                where
                  same : (v ≡ u) ⊎ Sooner v u → Sooner (v ++ d ∷ []) (u ++ a ∷ [])
                  same (inl e) = subst (λ x. Sooner (x ++ d ∷ []) (u ++ a ∷ [])) (sym e) (sooner_final u d a (omega (arith, ap (λ x. x * alphabet m) g.0)))
                  same (inr x) = sooner_push v u d a x

          sooner : (l : ℕ) → l < p * alphabet m + a → get_or t.cells l 0 < i
          sooner l g =
              let r = divide (alphabet m) (count t) l (omega (arith, row_fits (alphabet m) (count t) p a a_in p-in)) in
              let fv = b.reached r.0 r.2 in
              let v = fv.0 ++ (r.1 ∷ []) in
              subst (λ k. get_or t.cells k 0 < i) r.4
              (earlier i (next (alphabet m) t r.0 r.1) v (u ++ a ∷ []) h (b.inside r.0 r.1 r.2 r.3) f
              (over-append (alphabet m) fv.0 (r.1 ∷ []) fv.1.0 (r.3, tt))
              (run-append m.step m.start fv.0 (r.1 ∷ []) ∙ ap (λ s. m.step s r.1) fv.1.1 ∙ b.moves r.0 r.1 r.2 r.3)
              (precedes r.0 r.1 fv.0 fv.1 (omega (arith, r.4)) r.3))

  pub built_walked : Walked m t xs
  built_walked = record {
    states = b.states;
    sized = b.sized;
    some = b.some;
    first = starts;
    apart = b.apart;
    order = by-first-reach;
    inside = b.inside;
    moves = b.moves;
    values = b.values;
  }
