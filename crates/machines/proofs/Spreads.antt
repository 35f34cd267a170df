-- Words that lead to different states: how many there are, and what lists have all states.
use Rattle.std.proofs.Common.{◌≡◌, ℕ, ◌<◌, ◌≤◌, ◌⊎◌, List, [], length, sym, ap, ◌∙◌, inl, inr, arith}
use native.Mathlib.Decide.{dec_lt}
use Rattle.std.proofs.lemmas.Bool.{cases_order}
use Rattle.drafts.specs.Words.{Over}
use Rattle.machines.specs.Models.{MachineModel, alphabet, ends, Reaches, Covers, Spread}
use Rattle.machines.specs.Built.{entry}
use Rattle.machines.proofs.Injections.{no_fewer}

-- a fact for each number below c makes a function on all numbers
pub choose : {A : Type 0} (c : ℕ) (P : ℕ → A → Type 0) → A → ((i : ℕ) → i < c → (x : A) × P i x) → (f : ℕ → A) × ((i : ℕ) → i < c → P i (f i))
choose {A} c P d all = (λ i. (pick i (dec_lt i c)).0, λ i h. (pick i (dec_lt i c)).1 h)
  where
    pick : (i : ℕ) → Dec (i < c) → (x : A) × (i < c → P i x)
    pick i (yes h) = let r = all i h in (r.0, λ _. r.1)
    pick i (no h) = (d, λ l. absurd (h l))

-- states that are reached and pairwise different
pub spread_from : {S : Type 0} (m : MachineModel S) (xs : List S) → ((i : ℕ) → i < length xs → Reaches m (entry m xs i))
    → ((i j : ℕ) → i < length xs → j < length xs → entry m xs i ≡ entry m xs j → i ≡ j) → Spread m (length xs)
spread_from m xs reached apart =
    let f = choose (length xs) (λ i w. Over (alphabet m) w × (ends m w ≡ entry m xs i)) [] (λ i h. let r = reached i h in (r.0, (r.1, r.2))) in
    record {
      word = f.0;
      over = λ i h. (f.1 i h).0;
      differ = λ i j h k e. let hi : i < length xs = omega arith in omega (arith, apart i j hi k (sym (f.1 i hi).1 ∙ e ∙ (f.1 j k).1));
    }

-- a list with all states has as many at least
pub covers_spread : {S : Type 0} {m : MachineModel S} {c : ℕ} → Spread m c → (ys : List S) → Covers m ys → c ≤ length ys
covers_spread {m = m} {c = c} s ys all = no_fewer c (length ys) f.0 (λ i h. (f.1 i h).0) one
  where
    f : (p : ℕ → ℕ) × ((i : ℕ) → i < c → (p i < length ys) × (entry m ys (p i) ≡ ends m (s.word i)))
    f = choose c (λ i k. (k < length ys) × (entry m ys k ≡ ends m (s.word i))) 0 (λ i h. let r = all (s.word i) (s.over i h) in (r.0, (r.1, r.2)))

    one : (i j : ℕ) → i < c → j < c → f.0 i ≡ f.0 j → i ≡ j
    one i j h k e = go (cases_order i j)
      where
        met : ends m (s.word i) ≡ ends m (s.word j)
        met = sym (f.1 i h).1 ∙ ap (entry m ys) e ∙ (f.1 j k).1

        go : (i ≡ j) ⊎ ((i < j) ⊎ (j < i)) → i ≡ j
        go (inl g) = g
        go (inr (inl l)) = absurd (s.differ i j l k met)
        go (inr (inr l)) = absurd (s.differ j i l h (sym met))
