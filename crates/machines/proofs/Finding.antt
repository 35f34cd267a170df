-- A machine that reaches finitely many states has a table.
use Rattle.std.proofs.Common.{◌≡◌, ℕ, zero, suc, ◌+◌, ◌*◌, ◌<◌, ◌≤◌, ◌⊎◌, List, [], ◌∷◌, ◌++◌, length, get_or, sym, refl, inl, inr, mul-le-mul_right, arith}
use Rattle.std.proofs.lemmas.List.{length_push}
use Rattle.std.proofs.lemmas.Bool.{cases_lt}
use Rattle.machines.specs.Models.{MachineModel, alphabet, Covers}
use Rattle.machines.specs.Tables.{TableModel, count}
use Rattle.machines.specs.Built.{entry, Built}
use Rattle.machines.proofs.Spreads.{covers_spread}
use Rattle.machines.proofs.FirstWords.{walked_built}
use Rattle.machines.proofs.Growing.{some-letter, Grown, grown-start, grown-value, grown_known, grown_new, grown_row, grown_walked, grown-spread}

-- does x stand in ys
seek : {A : Type 0} → Discrete A → (d x : A) (ys : List A) → ((k : ℕ) × (k < length ys) × (get_or ys k d ≡ x)) ⊎ ((j : ℕ) → j < length ys → get_or ys j d ≡ x → ⊥)
seek same d x [] = inr (λ j h e. omega arith)
seek same d x (y ∷ ys) = go (same y x) (seek same d x ys)
  where
    go : Dec (y ≡ x) → ((k : ℕ) × (k < length ys) × (get_or ys k d ≡ x)) ⊎ ((j : ℕ) → j < length ys → get_or ys j d ≡ x → ⊥)
        → ((k : ℕ) × (k < suc (length ys)) × (get_or (y ∷ ys) k d ≡ x)) ⊎ ((j : ℕ) → j < suc (length ys) → get_or (y ∷ ys) j d ≡ x → ⊥)
    go (yes e) r = inl (0, omega arith, e)
    go (no e) (inl r) = inl (suc r.0, omega (arith, r.1), r.2)
    go (no e) (inr r) = inr none
      where
        none : (j : ℕ) → j < suc (length ys) → get_or (y ∷ ys) j d ≡ x → ⊥
        none zero h f = e f
        none (suc j) h f = r j (omega arith) f

module _ {S : Type 0} (m : MachineModel S) (same : Discrete S) (ys : List S) (all : Covers m ys) where
  abbrev Found : Type 0
  Found = (t : TableModel) × (xs : List S) × Built m t xs × (count t ≤ length ys)

  -- a walk with all values written, at a letter of a row
  pub record Going (xs : List S) (cells : List ℕ) (i a : ℕ) : Type 0 where
    pub values : List ℕ
    pub grown : Grown m xs values cells i a
    pub written : length values ≡ length xs
    pub letter : a < alphabet m

  few : (xs : List S) (cells : List ℕ) (i a : ℕ) → Going xs cells i a → length xs ≤ length ys
  few xs cells i a g = covers_spread (grown-spread g.grown) ys all

  -- on to the next letter, or the next row
  onward : (xs : List S) (values cells : List ℕ) (i a : ℕ) → Grown m xs values cells i (a + 1) → length values ≡ length xs → a < alphabet m
      → (j : ℕ) × (b : ℕ) × Going xs cells j b
  onward xs values cells i a g e h = go (cases_lt (a + 1) (alphabet m))
    where
      go : (a + 1 < alphabet m) ⊎ (alphabet m ≤ a + 1) → (j : ℕ) × (b : ℕ) × Going xs cells j b
      go (inl l) = (i, a + 1, record { values = values; grown = g; written = e; letter = l })
      go (inr l) = (i + 1, 0, record { values = values; grown = grown_row g (omega arith); written = e; letter = some-letter m })

  grow : (fuel : ℕ) (xs : List S) (cells : List ℕ) (i a : ℕ) → Going xs cells i a → length ys * alphabet m < length cells + fuel → Found
  grow zero xs cells i a g h = let z : ⊥ = omega (arith, g.grown.rows, mul-le-mul_right (alphabet m) (few xs cells i a g)) in absurd z
  grow (suc fuel) xs cells i a g h = go (cases_lt i (length xs)) (grow fuel)
    where
      values : List ℕ
      values = g.values

      go : (i < length xs) ⊎ (length xs ≤ i)
          → ((xs : List S) (cells : List ℕ) (i a : ℕ) → Going xs cells i a → length ys * alphabet m < length cells + fuel → Found) → Found
      go (inr l) rec = (record { values = g.values; cells = cells }, xs, walked_built (grown_walked g.grown l g.written), omega (arith, g.written, few xs cells i a g))
      go (inl l) rec = next (seek same m.start s xs)
        where
          s : S
          s = m.step (entry m xs i) a

          next : ((k : ℕ) × (k < length xs) × (entry m xs k ≡ s)) ⊎ ((j : ℕ) → j < length xs → entry m xs j ≡ s → ⊥) → Found
          next (inl r) =
              let o = onward xs g.values (cells ++ r.0 ∷ []) i a (grown_known g.grown r.0 l g.letter r.1 (sym r.2)) g.written g.letter in
              rec xs (cells ++ r.0 ∷ []) o.0 o.1 o.2 (omega (arith, length_push cells r.0))
          next (inr new) =
              let xs' = xs ++ s ∷ [] in
              let v = m.value (entry m xs' (length g.values)) in
              let k = grown-value (grown_new g.grown s l g.letter refl new) v (omega (arith, g.written, length_push xs s)) refl in
              let o = onward xs' (g.values ++ v ∷ []) (cells ++ length xs ∷ []) i a k (omega (arith, length_push g.values v, length_push xs s, g.written)) g.letter in
              rec xs' (cells ++ length xs ∷ []) o.0 o.1 o.2 (omega (arith, length_push cells (length xs)))

  pub found : Found
  found =
      grow (suc (length ys * alphabet m)) (m.start ∷ []) [] 0 0
      (record { values = m.value m.start ∷ []; grown = grown-value grown-start (m.value m.start) (omega arith) refl; written = refl; letter = some-letter m })
      (omega arith)
