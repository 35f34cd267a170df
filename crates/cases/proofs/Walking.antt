-- Walking through a machine step by step, and a test of what was found: whatever passes the test is built.
use Rattle.std.proofs.Common.{◌≡◌, ℕ, zero, suc, ◌*◌, ◌<◌, Bool, true, false, cond, not, ◌&&◌, ◌||◌, eqb, ltb, List, [], ◌∷◌, ◌++◌, map, length, get_or, Decides, refl, inl, inr, arith}
use Rattle.std.proofs.lemmas.Bool.{cases_eq, ltb-true, eqb-true, not-true, both_ways, and_parts, and_from, or_cases}
use Rattle.automata.specs.Tests.{every}
use Rattle.machines.specs.Models.{MachineModel, alphabet}
use Rattle.machines.specs.Tables.{TableModel, count, next}
use Rattle.machines.specs.Built.{entry, Built}
use Rattle.machines.proofs.Walks.{FirstCell, Walked}
use Rattle.machines.proofs.FirstWords.{walked_built}

pub every-at : (n : ℕ) (f : ℕ → Bool) → every n f ≡ true → (k : ℕ) → k < n → f k ≡ true
every-at zero f e k l = absurd (omega arith)
every-at (suc n) f e k l =
    let h = and_parts (f n) (every n f) e in
    elim (cases_eq k n) [ inl same ↦ rw same h.0 | inr ne ↦ every-at n f h.1 k (omega arith) ]

pub every_from : (n : ℕ) (f : ℕ → Bool) → ((k : ℕ) → k < n → f k ≡ true) → every n f ≡ true
every_from zero f h = refl
every_from (suc n) f h = and_from (f n) (every n f) (h n (omega arith)) (every_from n f (λ k l. h k (omega arith)))

pub three : (x y z : Bool) → (x && (y && z)) ≡ true → (x ≡ true) × (y ≡ true) × (z ≡ true)
three x y z e = let p = and_parts x (y && z) e in let q = and_parts y z p.1 in (p.0, q.0, q.1)

-- the number of the first place that passes a test; past the end where none does
abbrev pub first_place_of : {A : Type 0} → (A → Bool) → List A → ℕ
first_place_of f [] = 0
first_place_of f (x ∷ xs) = cond (f x) 0 (suc (first_place_of f xs))

-- what has been found of a machine: states, and the cells of the rows of the first of them
pub record Found (S : Type 0) : Type 0 where
  pub states : List S
  pub cells : List ℕ

-- the next cell leads to s, which may be new
abbrev pub named : {S : Type 0} → (S → S → Bool) → Found S → S → Found S
named same f s =
    let k = first_place_of (same s) f.states in
    record { states = cond (ltb k (length f.states)) f.states (f.states ++ s ∷ []); cells = f.cells ++ k ∷ [] }

module _ {S : Type 0} (same : S → S → Bool) (m : MachineModel S) where
  -- the first n cells of the row of s
  abbrev row : ℕ → S → Found S → Found S
  row zero s f = f
  row (suc a) s f = named same (row a s f) (m.step s a)

  -- the rows from i on, at most so many
  abbrev onward : ℕ → ℕ → Found S → Found S
  onward zero i f = f
  onward (suc k) i f = elim (ltb i (length f.states)) [ true ↦ onward k (suc i) (row (alphabet m) (entry m f.states i) f) | false ↦ f ]

  abbrev pub explored : Found S
  explored = onward 128 0 (record { states = m.start ∷ []; cells = [] })

  abbrev pub explored_table : TableModel
  explored_table = record { values = map m.value explored.states; cells = explored.cells }

  module _ (t : TableModel) (xs : List S) where
    abbrev sized : Bool
    sized = eqb (length xs) (count t) && (eqb (length t.cells) (count t * alphabet m) && ltb 0 (count t))

    -- i and j are not two numbers of one state
    abbrev same_number : ℕ → ℕ → Bool
    same_number i j = eqb i j || not (same (entry m xs i) (entry m xs j))

    -- the first cell that names i, which stands in an earlier row
    abbrev named_at : ℕ → ℕ
    named_at i = first_place_of (eqb i) t.cells

    abbrev earlier : ℕ → ℕ → Bool
    earlier i l = ltb (get_or t.cells l 0) i

    abbrev reached_first : ℕ → Bool
    reached_first i = ltb (named_at i) (i * alphabet m) && (eqb (get_or t.cells (named_at i) 0) i && every (named_at i) (earlier i))

    abbrev in_order : ℕ → Bool
    in_order i = eqb i 0 || reached_first i

    abbrev numbered : Bool
    numbered = same (entry m xs 0) m.start && (every (count t) (λ i. every (count t) (same_number i)) && every (count t) in_order)

    -- cell a of row i names a state, and that to which the letter leads
    abbrev cell_right : ℕ → ℕ → Bool
    cell_right i a = ltb (next (alphabet m) t i a) (count t) && same (m.step (entry m xs i) a) (entry m xs (next (alphabet m) t i a))

    abbrev row_right : ℕ → Bool
    row_right i = eqb (get_or t.values i 0) (m.value (entry m xs i)) && every (alphabet m) (cell_right i)

    -- t and xs are what words reach in m, numbered by first reach
    abbrev pub walks : Bool
    walks = sized && (numbered && every (count t) row_right)

    module _ (told : (s r : S) → Decides (same s r) (s ≡ r)) (passes : walks ≡ true) where
      parts : (sized ≡ true) × (numbered ≡ true) × (every (count t) row_right ≡ true)
      parts = three sized numbered (every (count t) row_right) passes

      sizes : (length xs ≡ count t) × (length t.cells ≡ count t * alphabet m) × (0 < count t)
      sizes =
          let p = three (eqb (length xs) (count t)) (eqb (length t.cells) (count t * alphabet m)) (ltb 0 (count t)) parts.0 in
          (eqb-true _ _ p.0, eqb-true _ _ p.1, ltb-true _ _ p.2)

      numbers : (same (entry m xs 0) m.start ≡ true) × (every (count t) (λ i. every (count t) (same_number i)) ≡ true) × (every (count t) in_order ≡ true)
      numbers = three (same (entry m xs 0) m.start) (every (count t) (λ i. every (count t) (same_number i))) (every (count t) in_order) parts.1

      right : (i : ℕ) → i < count t → (eqb (get_or t.values i 0) (m.value (entry m xs i)) ≡ true) × (every (alphabet m) (cell_right i) ≡ true)
      right i l = and_parts (eqb (get_or t.values i 0) (m.value (entry m xs i))) (every (alphabet m) (cell_right i)) (every-at (count t) row_right parts.2 i l)

      cell : (i a : ℕ) → i < count t → a < alphabet m
          → (ltb (next (alphabet m) t i a) (count t) ≡ true) × (same (m.step (entry m xs i) a) (entry m xs (next (alphabet m) t i a)) ≡ true)
      cell i a l h =
          and_parts (ltb (next (alphabet m) t i a) (count t)) (same (m.step (entry m xs i) a) (entry m xs (next (alphabet m) t i a))) (every-at (alphabet m) (cell_right i) (right i l).1 a h)

      different : (i j : ℕ) → i < count t → j < count t → entry m xs i ≡ entry m xs j → i ≡ j
      different i j l h e =
          elim (or_cases (eqb i j) (not (same (entry m xs i) (entry m xs j))) (every-at (count t) (same_number i) (every-at (count t) (λ k. every (count t) (same_number k)) numbers.1 i l) j h)) [
            | inl eq ↦ eqb-true i j eq
            | inr ne ↦ absurd (both_ways _ (not-true _ ne) ((told (entry m xs i) (entry m xs j)).1 e))
          ]

      first_reached : (i : ℕ) → 0 < i → i < count t → (k : ℕ) × (k < i * alphabet m) × FirstCell t.cells i k
      first_reached i pos l =
          elim (or_cases (eqb i 0) (reached_first i) (every-at (count t) in_order numbers.2 i l)) [
            | inl eq ↦ absurd (omega (arith, eqb-true i 0 eq))
            | inr h ↦
                let p = three (ltb (named_at i) (i * alphabet m)) (eqb (get_or t.cells (named_at i) 0) i) (every (named_at i) (earlier i)) h in
                (named_at i, ltb-true (named_at i) _ p.0, (eqb-true _ i p.1, λ c g. ltb-true _ i (every-at (named_at i) (earlier i) p.2 c g)))
          ]

      walked : Walked m t xs
      walked = record {
        states = sizes.0;
        sized = sizes.1;
        some = sizes.2;
        first = (told _ _).0 numbers.0;
        apart = different;
        order = first_reached;
        inside = λ i a l h. ltb-true _ _ (cell i a l h).0;
        moves = λ i a l h. (told _ _).0 (cell i a l h).1;
        values = λ i l. eqb-true _ _ (right i l).0;
      }

      pub walks_built : Built m t xs
      walks_built = walked_built walked
