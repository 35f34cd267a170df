-- A walk as it goes: the states found so far, and a table that is filled cell by cell.
use Rattle.std.proofs.Common.{◌≡◌, ℕ, zero, suc, ◌+◌, ◌*◌, ◌<◌, ◌≤◌, ◌⊎◌, List, [], ◌∷◌, ◌++◌, length, get_or, sym, refl, ap, ◌∙◌, subst, inl, inr, mul-le-mul_right, arith}
use Rattle.std.proofs.lemmas.List.{length_push, get_or_push, get_or_append_left}
use Rattle.std.proofs.lemmas.Bool.{cases_lt}
use Rattle.automata.proofs.SignLaws.{decides_counted, accepted-parts}
use Rattle.drafts.proofs.Runs.{run-append, over-append}
use Rattle.machines.specs.Models.{MachineModel, alphabet, Reaches, Spread}
use Rattle.machines.specs.Built.{entry}
use Rattle.machines.proofs.Numbers.{strong, split_top, divide, row_fits, one_cell}
use Rattle.machines.proofs.Walks.{FirstCell, Walked}
use Rattle.machines.proofs.Spreads.{spread_from}

-- there is a letter
pub some-letter : {S : Type 0} (m : MachineModel S) → 0 < alphabet m
some-letter m = omega (arith, (decides_counted m.signs).0 (accepted-parts m.signs m.acceptable).0)

-- xs are the states found so far, values the values written so far, and cells the cells filled so far,
-- which are the rows before i and a cells of row i.
pub record Grown {S : Type 0} (m : MachineModel S) (xs : List S) (values cells : List ℕ) (i a : ℕ) : Type 0 where
  pub some : 0 < length xs
  pub first : entry m xs 0 ≡ m.start
  pub apart : (j k : ℕ) → j < length xs → k < length xs → entry m xs j ≡ entry m xs k → j ≡ k
  pub fits : length values ≤ length xs
  pub valued : (j : ℕ) → j < length values → get_or values j 0 ≡ m.value (entry m xs j)
  pub filled : length cells ≡ i * alphabet m + a
  pub rows : length cells ≤ length xs * alphabet m
  pub inside : (l : ℕ) → l < length cells → get_or cells l 0 < length xs
  pub moves : (p b : ℕ) → b < alphabet m → p * alphabet m + b < length cells → m.step (entry m xs p) b ≡ entry m xs (get_or cells (p * alphabet m + b) 0)
  pub order : (j : ℕ) → 0 < j → j < length xs → (k : ℕ) × (k < length cells) × (k < j * alphabet m) × FirstCell cells j k

-- what holds of each entry and of the new one holds of each entry of the longer list
push_places : {A : Type 0} (xs : List A) (x d : A) (P : A → Type 0) → ((l : ℕ) → l < length xs → P (get_or xs l d)) → P x → (l : ℕ) → l < length (xs ++ x ∷ []) → P (get_or (xs ++ x ∷ []) l d)
push_places [] x d P h k zero l = k
push_places [] x d P h k (suc i) l = let z : ⊥ = omega arith in absurd z
push_places (y ∷ xs) x d P h k zero l = h 0 (omega arith)
push_places (y ∷ xs) x d P h k (suc i) l = push_places xs x d P (λ j g. h (suc j) (omega arith)) k i (omega arith)

-- a row that has begun is the row of a state
row_of : (n x p b : ℕ) → p * n + b < x * n → p < x
row_of n x p b l = elim (cases_lt p x) [ inl k ↦ k | inr k ↦ let z : ⊥ = omega (arith, mul-le-mul_right n k) in absurd z ]

push_first_cell : (cells : List ℕ) (j k c : ℕ) → k < length cells → FirstCell cells j k → FirstCell (cells ++ c ∷ []) j k
push_first_cell cells j k c l f =
    (get_or_append_left cells (c ∷ []) 0 k l ∙ f.0, λ h s. rw (get_or_append_left cells (c ∷ []) 0 h (omega arith)) (f.1 h s))

module _ {S : Type 0} {m : MachineModel S} where
  -- only the start
  pub grown-start : Grown m (m.start ∷ []) [] [] 0 0
  grown-start = record {
    some = omega arith;
    first = refl;
    apart = λ j k h l e. omega arith;
    fits = omega arith;
    valued = λ j h. let z : ⊥ = omega arith in absurd z;
    filled = omega arith;
    rows = omega arith;
    inside = λ l h. let z : ⊥ = omega arith in absurd z;
    moves = λ p b h k. let z : ⊥ = omega arith in absurd z;
    order = λ j h k. let z : ⊥ = omega arith in absurd z;
  }

  module _ {xs : List S} {values cells : List ℕ} {i a : ℕ} (g : Grown m xs values cells i a) where
    -- the value of the next state that has none yet
    pub grown-value : (v : ℕ) → length values < length xs → v ≡ m.value (entry m xs (length values)) → Grown m xs (values ++ v ∷ []) cells i a
    grown-value v h e = record {
      some = g.some;
      first = g.first;
      apart = g.apart;
      fits = omega (arith, length_push values v);
      valued = λ j l. valued j (split_top j (length values) (rw (length_push values v) at l));
      filled = g.filled;
      rows = g.rows;
      inside = g.inside;
      moves = g.moves;
      order = g.order;
    }
      where
        valued : (j : ℕ) → (j < length values) ⊎ (j ≡ length values) → get_or (values ++ v ∷ []) j 0 ≡ m.value (entry m xs j)
        valued j (inl l) = get_or_append_left values (v ∷ []) 0 j l ∙ g.valued j l
        valued j (inr f) = get_or_push values v 0 j (sym f) ∙ e ∙ ap (λ k. m.value (entry m xs k)) (sym f)

    -- one more cell, where ys are the states from here on
    push-moves : (ys : List S) (c : ℕ) → a < alphabet m
        → ((p b : ℕ) → b < alphabet m → p * alphabet m + b < length cells → m.step (entry m ys p) b ≡ entry m ys (get_or cells (p * alphabet m + b) 0))
        → m.step (entry m ys i) a ≡ entry m ys c
        → (p b : ℕ) → b < alphabet m → p * alphabet m + b < length (cells ++ c ∷ []) → m.step (entry m ys p) b ≡ entry m ys (get_or (cells ++ c ∷ []) (p * alphabet m + b) 0)
    push-moves ys c ha old st p b hb hk = moved (split_top (p * alphabet m + b) (length cells) (rw (length_push cells c) at hk))
      where
        moved : (p * alphabet m + b < length cells) ⊎ (p * alphabet m + b ≡ length cells) → m.step (entry m ys p) b ≡ entry m ys (get_or (cells ++ c ∷ []) (p * alphabet m + b) 0)
        moved (inl l) = old p b hb l ∙ ap (entry m ys) (sym (get_or_append_left cells (c ∷ []) 0 (p * alphabet m + b) l))
        moved (inr f) =
            let e = one_cell (alphabet m) p i b a hb ha (f ∙ g.filled) in
            ap (λ x. m.step (entry m ys x) b) e.0 ∙ ap (m.step (entry m ys i)) e.1 ∙ st
            ∙ ap (entry m ys) (sym (get_or_push cells c 0 (p * alphabet m + b) (sym f)))

    push-filled : (c : ℕ) → length (cells ++ c ∷ []) ≡ i * alphabet m + (a + 1)
    push-filled c = omega (arith, length_push cells c, g.filled)

    push-rows : (c x : ℕ) → a < alphabet m → i < x → length (cells ++ c ∷ []) ≤ x * alphabet m
    push-rows c x ha hi = omega (arith, push-filled c, row_fits (alphabet m) x i a ha hi)

    push-order : (j c : ℕ) → (k : ℕ) × (k < length cells) × (k < j * alphabet m) × FirstCell cells j k
        → (k : ℕ) × (k < length (cells ++ c ∷ [])) × (k < j * alphabet m) × FirstCell (cells ++ c ∷ []) j k
    push-order j c r = (r.0, omega (arith, r.1, length_push cells c), r.2, push_first_cell cells j r.0 c r.1 r.3)

    -- the step leads to a state that was found before
    pub grown_known : (c : ℕ) → i < length xs → a < alphabet m → c < length xs → m.step (entry m xs i) a ≡ entry m xs c → Grown m xs values (cells ++ c ∷ []) i (a + 1)
    grown_known c hi ha hc st = record {
      some = g.some;
      first = g.first;
      apart = g.apart;
      fits = g.fits;
      valued = g.valued;
      filled = push-filled c;
      rows = push-rows c (length xs) ha hi;
      inside = push_places cells c 0 (λ x. x < length xs) g.inside hc;
      moves = push-moves xs c ha g.moves st;
      order = λ j h₁ h₂. push-order j c (g.order j h₁ h₂);
    }

    -- the step leads to a new state
    pub grown_new : (s : S) → i < length xs → a < alphabet m → m.step (entry m xs i) a ≡ s → ((j : ℕ) → j < length xs → entry m xs j ≡ s → ⊥)
        → Grown m (xs ++ s ∷ []) values (cells ++ length xs ∷ []) i (a + 1)
    grown_new s hi ha st new = record {
      some = omega (arith, long);
      first = at 0 g.some ∙ g.first;
      apart = λ j k hj hk f. alone j k (split_top j (length xs) (rw long at hj)) (split_top k (length xs) (rw long at hk)) f;
      fits = omega (arith, g.fits, long);
      valued = λ j l. g.valued j l ∙ ap m.value (sym (at j (omega (arith, g.fits))));
      filled = push-filled (length xs);
      rows = push-rows (length xs) (length (xs ++ s ∷ [])) ha (omega (arith, long));
      inside = push_places cells (length xs) 0 (λ c. c < length (xs ++ s ∷ [])) (λ l k. omega (arith, g.inside l k, long)) (omega (arith, long));
      moves = push-moves (xs ++ s ∷ []) (length xs) ha old (ap (λ x. m.step x a) (at i hi) ∙ st ∙ sym newest);
      order = λ j h₁ h₂. ordered j h₁ (split_top j (length xs) (rw long at h₂));
    }
      where
        long : length (xs ++ s ∷ []) ≡ length xs + 1
        long = length_push xs s

        at : (j : ℕ) → j < length xs → entry m (xs ++ s ∷ []) j ≡ entry m xs j
        at j l = get_or_append_left xs (s ∷ []) m.start j l

        newest : entry m (xs ++ s ∷ []) (length xs) ≡ s
        newest = get_or_push xs s m.start (length xs) refl

        old : (p b : ℕ) → b < alphabet m → p * alphabet m + b < length cells → m.step (entry m (xs ++ s ∷ []) p) b ≡ entry m (xs ++ s ∷ []) (get_or cells (p * alphabet m + b) 0)
        old p b hb l =
            ap (λ x. m.step x b) (at p (row_of (alphabet m) (length xs) p b (omega (arith, g.rows)))) ∙ g.moves p b hb l ∙ sym (at (get_or cells (p * alphabet m + b) 0) (g.inside (p * alphabet m + b) l))

        alone : (j k : ℕ) → (j < length xs) ⊎ (j ≡ length xs) → (k < length xs) ⊎ (k ≡ length xs) → entry m (xs ++ s ∷ []) j ≡ entry m (xs ++ s ∷ []) k → j ≡ k
        alone j k (inl h) (inl l) f = g.apart j k h l (sym (at j h) ∙ f ∙ at k l)
        alone j k (inl h) (inr l) f = absurd (new j h (sym (at j h) ∙ f ∙ ap (entry m (xs ++ s ∷ [])) l ∙ newest))
        alone j k (inr h) (inl l) f = absurd (new k l (sym (at k l) ∙ sym f ∙ ap (entry m (xs ++ s ∷ [])) h ∙ newest))
        alone j k (inr h) (inr l) f = h ∙ sym l

        ordered : (j : ℕ) → 0 < j → (j < length xs) ⊎ (j ≡ length xs)
            → (k : ℕ) × (k < length (cells ++ length xs ∷ [])) × (k < j * alphabet m) × FirstCell (cells ++ length xs ∷ []) j k
        ordered j h₁ (inl l) = push-order j (length xs) (g.order j h₁ l)
        ordered j h₁ (inr f) = (
          length cells,
          omega (arith, length_push cells (length xs)),
          rw (f, g.filled) (row_fits (alphabet m) (length xs) i a ha hi),
          (
            get_or_push cells (length xs) 0 (length cells) refl ∙ sym f,
            λ l k. rw (f, get_or_append_left cells (length xs ∷ []) 0 l k) (g.inside l k),
          ),
        )

    -- the row is full
    pub grown_row : a ≡ alphabet m → Grown m xs values cells (i + 1) 0
    grown_row e = record {
      some = g.some;
      first = g.first;
      apart = g.apart;
      fits = g.fits;
      valued = g.valued;
      filled = g.filled ∙ omega arith;
      rows = g.rows;
      inside = g.inside;
      moves = g.moves;
      order = g.order;
    }

    -- all rows are full, and all values are written
    pub grown_walked : length xs ≤ i → length values ≡ length xs → Walked m (record { values = values; cells = cells }) xs
    grown_walked h e = record {
      states = sym e;
      sized = full ∙ ap (λ c. c * alphabet m) (sym e);
      some = rw e g.some;
      first = g.first;
      apart = λ j k hj hk. g.apart j k (rw e at hj) (rw e at hk);
      order = λ j h₁ h₂. let r = g.order j h₁ (rw e at h₂) in (r.0, r.2, r.3);
      inside = λ j b hj hb. rw e (g.inside (j * alphabet m + b) (held j b hj hb));
      moves = λ j b hj hb. g.moves j b hb (held j b hj hb);
      values = g.valued;
    }
      where
        full : length cells ≡ length xs * alphabet m
        full = omega (arith, g.rows, g.filled, mul-le-mul_right (alphabet m) h)

        held : (j b : ℕ) → j < length values → b < alphabet m → j * alphabet m + b < length cells
        held j b hj hb = rw full (row_fits (alphabet m) (length xs) j b hb (rw e at hj))

    reach_step : (j : ℕ) → ((k : ℕ) → k < j → k < length xs → Reaches m (entry m xs k)) → j < length xs → Reaches m (entry m xs j)
    reach_step zero ih h = ([], tt, sym g.first)
    reach_step (suc j) ih h =
        let c = g.order (suc j) (omega arith) h in
        let r = divide (alphabet m) (suc j) c.0 c.2 in
        let w = ih r.0 r.2 (omega (arith, r.2)) in (
          w.0 ++ (r.1 ∷ []),
          over-append (alphabet m) w.0 (r.1 ∷ []) w.1 (r.3, tt),
          run-append m.step m.start w.0 (r.1 ∷ []) ∙ ap (λ s. m.step s r.1) w.2 ∙ g.moves r.0 r.1 r.3 (omega (arith, r.4, c.1))
              ∙ ap (entry m xs) (ap (λ k. get_or cells k 0) r.4 ∙ c.3.0),
        )

    -- words lead to each state that was found
    pub grown-reached : (j : ℕ) → j < length xs → Reaches m (entry m xs j)
    grown-reached = strong (λ j. j < length xs → Reaches m (entry m xs j)) reach_step

    pub grown-spread : Spread m (length xs)
    grown-spread = spread_from m xs grown-reached g.apart

-- a step to a new state shows that one more is reached than were found
pub grown-more : {S : Type 0} {m : MachineModel S} {xs : List S} {values cells : List ℕ} {i a : ℕ} → Grown m xs values cells i a
    → (s : S) → i < length xs → a < alphabet m → m.step (entry m xs i) a ≡ s → ((j : ℕ) → j < length xs → entry m xs j ≡ s → ⊥) → Spread m (length xs + 1)
grown-more {m = m} {xs = xs} g s hi ha st new = subst (Spread m) (length_push xs s) (grown-spread (grown_new g s hi ha st new))
