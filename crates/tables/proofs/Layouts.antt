-- Cells that are laid row after row, and that a grid shows them again.
use Rattle.std.proofs.Common.{◌≡◌, ℕ, ◌+◌, ◌*◌, ◌/◌, ◌%◌, ◌<◌, ◌≤◌, true, List, [], ◌∷◌, length, get_or, take, replicate, None, Option, sym, ap, ◌∙◌, inl, inr, arith}
use lib.ListN.{length-replicate}
use Rattle.std.proofs.lemmas.List.{ext_get_or, get_or-take, length-take-le, get_or-replicate, get_or_past, get_or_default}
use Rattle.std.proofs.lemmas.Bool.{cases_lt, ltb-true, leb-true, eqb-true, and_parts}
use Rattle.kinds.specs.Kinds.{KindModel}
use Rattle.automata.specs.declared.faults.SignFault.{SignFault}
use Rattle.automata.specs.Signs.{sign_fault, BlankPast}
use Rattle.automata.specs.Tests.{first_no}
use Rattle.automata.specs.Held.{Bytes, RowsOf}
use Rattle.drafts.specs.Words.{tabulate}
use Rattle.drafts.proofs.Tabulates.{is_tabulate}
use Rattle.machines.proofs.Numbers.{divide, row_fits}
use Rattle.tables.specs.Held.{cell, Inside, RowsBlank, ColumnsBlank}
use Rattle.tables.specs.declared.grid.laying.LayFault.TheVariants.{Shape, NoState, NotAdmitted}
use Rattle.tables.specs.Laying.{shaped, all_below, admits_all, lay_questions, or_else, lay_fault, padded, row_at}
use Rattle.tables.proofs.Cells.{cell_at}
use Rattle.tables.proofs.Padded.{padded-length, padded-at, padded-past, every-at}

pub shaped-parts : (n c v k : ℕ) → shaped n c v k ≡ true → (1 ≤ c) × (c ≤ 128) × (v ≡ c) × (k ≡ c * n)
shaped-parts n c v k e =
    let p = and_parts _ _ e in
    let q = and_parts _ _ p.1 in
    let r = and_parts _ _ q.1 in
    (leb-true 1 c p.0, leb-true c 128 q.0, eqb-true v c r.0, eqb-true k (c * n) r.1)

pub below_parts : (c : ℕ) (next : List ℕ) → all_below c next ≡ true → (k : ℕ) → k < length next → get_or next k 0 < c
below_parts c next e k l = ltb-true (get_or next k 0) c (every-at (length next) _ e k l)

-- where each question is answered by yes, there is no fault
pub no_fault : (K : KindModel) (signs : List ℕ) (c : ℕ) (vs next : List ℕ) (n : ℕ) → length signs ≡ n → sign_fault signs ≡ None → shaped n c (length vs) (length next) ≡ true
    → all_below c next ≡ true → admits_all K vs ≡ true → lay_fault K signs c vs next ≡ None
no_fault K signs c vs next n e s h b a =
    ap (λ (x : Option SignFault). or_else x (first_no (lay_questions K (length signs) c vs next))) s
    ∙ (ap (λ (m : ℕ). first_no (lay_questions K m c vs next)) e
    ∙ λ i. first_no ((h i, Shape) ∷ (b i, NoState) ∷ (a i, NotAdmitted) ∷ []))

-- values in 128 places
module _ (vs : List ℕ) (few : length vs ≤ 128) where
  abbrev places : List ℕ
  places = padded 128 0 (length vs) (λ k. get_or vs k 0)

  pub places-length : length places ≡ 128
  places-length = padded-length 128 0 (λ k. get_or vs k 0) (length vs)

  pub places-blank : BlankPast places (length vs)
  places-blank k g = padded-past 128 0 (λ k. get_or vs k 0) (length vs) k g

  places-at : (k : ℕ) → k < length vs → get_or places k 0 ≡ get_or vs k 0
  places-at k l = padded-at 128 0 (λ k. get_or vs k 0) (length vs) k l few

  pub places-bytes : Bytes vs → Bytes places
  places-bytes h k =
      elim (cases_lt k (length vs)) [
        | inl l ↦ let e = places-at k l in omega (arith, h k, e)
        | inr g ↦ let e = places-blank k g in omega arith
      ]

  pub places-front : take (length vs) places ≡ vs
  places-front =
      let long : length (take (length vs) places) ≡ length vs = length-take-le (length vs) places (omega (arith, places-length)) in
      ext_get_or 0 (take (length vs) places) vs long (λ k l. let lk : k < length vs = omega (arith, long) in get_or-take (length vs) places k 0 lk ∙ places-at k lk)

-- cells in 128 rows of 16
module _ (n c : ℕ) (next : List ℕ) (few : c ≤ 128) (narrow : n ≤ 16) (long : length next ≡ c * n) where
  abbrev pub laid : List (List ℕ)
  laid = padded 128 (replicate 16 0) c (row_at n next)

  pub laid_length : length laid ≡ 128
  laid_length = padded-length 128 (replicate 16 0) (row_at n next) c

  row_is : (i : ℕ) → i < c → get_or laid i [] ≡ row_at n next i
  row_is i l = get_or_default laid i [] (replicate 16 0) (rw laid_length (omega arith)) ∙ padded-at 128 (replicate 16 0) (row_at n next) c i l few

  row-past : (i : ℕ) → c ≤ i → i < 128 → get_or laid i [] ≡ replicate 16 0
  row-past i g l = get_or_default laid i [] (replicate 16 0) (rw laid_length l) ∙ padded-past 128 (replicate 16 0) (row_at n next) c i g

  pub cell_is : (i a : ℕ) → i < c → a < n → cell laid i a ≡ get_or next (i * n + a) 0
  cell_is i a l h = ap (λ (r : List ℕ). get_or r a 0) (row_is i l) ∙ padded-at 16 0 (λ b. get_or next (i * n + b) 0) n a h narrow

  pub laid_columns : RowsOf 16 laid
  laid_columns p l =
      let l' : p < 128 = rw laid_length at l in
      elim (cases_lt p c) [
        | inl h ↦ ap length (row_is p h) ∙ padded-length 16 0 (λ b. get_or next (p * n + b) 0) n
        | inr g ↦ ap length (row-past p g l') ∙ length-replicate {A = ℕ} 16 0
      ]

  pub laid_below : RowsBlank laid c
  laid_below i a g =
      elim (cases_lt i 128) [
        | inl l ↦ ap (λ (r : List ℕ). get_or r a 0) (row-past i g l) ∙ zero_row a
        | inr far ↦ ap (λ (r : List ℕ). get_or r a 0) (get_or_past laid i [] (rw laid_length far))
      ]
    where
      zero_row : (a : ℕ) → get_or {A = ℕ} (replicate 16 0) a 0 ≡ 0
      zero_row a = elim (cases_lt a 16) [ inl l ↦ get_or-replicate 16 a 0 0 l | inr h ↦ get_or_past (replicate 16 0) a 0 (simp length-replicate h) ]

  pub laid_beside : ColumnsBlank laid n
  laid_beside i a g =
      elim (cases_lt i c) [
        | inl l ↦ ap (λ (r : List ℕ). get_or r a 0) (row_is i l) ∙ padded-past 16 0 (λ b. get_or next (i * n + b) 0) n a g
        | inr h ↦ laid_below i a h
      ]

  pub laid_inside : ((k : ℕ) → k < length next → get_or next k 0 < c) → Inside laid c n
  laid_inside small i a l h =
      let e = cell_is i a l h in
      omega (arith, e, small (i * n + a) (rw long (row_fits n c i a h l)))

  pub laid_cells : tabulate (c * n) (λ k. cell laid (k / n) (k % n)) ≡ next
  laid_cells = sym (is_tabulate 0 (c * n) (λ k. cell laid (k / n) (k % n)) next long
      (λ k l. let d = divide n c k l in
      let e : d.0 * n + d.1 ≡ k = d.4 in
      ap (λ (j : ℕ). get_or next j 0) (sym e)
      ∙ (sym (cell_is d.0 d.1 d.2 d.3)
      ∙ (sym (cell_at laid n d.0 d.1 d.3) ∙ ap (λ (j : ℕ). cell laid (j / n) (j % n)) e))))
