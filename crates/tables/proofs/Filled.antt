-- A table whose rows are all filled is the one that is built from the machine.
use Rattle.std.proofs.Common.{◌≡◌, ℕ, suc, ◌+◌, ◌*◌, ◌/◌, ◌%◌, ◌<◌, ◌≤◌, min, List, length, take, replicate, sym, refl, ap, ◌∙◌, subst, ap₂, inl, inr, mul-le-mul_right, arith}
use lib.ListN.{length-replicate}
use Rattle.std.proofs.lemmas.List.{length-take-le}
use Rattle.std.proofs.lemmas.Bool.{cases_lt}
use Rattle.kinds.specs.Kinds.{KindModel}
use Rattle.automata.specs.declared.signs.Signs.{Signs}
use Rattle.automata.specs.Shown.{sign_bytes}
use Rattle.automata.proofs.ShownLaws.{sign_count}
use Rattle.drafts.specs.Words.{tabulate}
use Rattle.drafts.proofs.Tabulates.{length-tabulate, get_d_tabulate}
use Rattle.machines.specs.Models.{MachineModel, alphabet, Spread}
use Rattle.machines.specs.Tables.{TableModel}
use Rattle.machines.specs.Built.{Built}
use Rattle.machines.proofs.Numbers.{row_fits}
use Rattle.machines.proofs.Growing.{grown_walked}
use Rattle.machines.proofs.FirstWords.{walked_built}
use Rattle.tables.specs.declared.grid.Grid.{Grid}
use Rattle.tables.specs.Held.{values_of, cells_of, cell, RowsBlank}
use Rattle.tables.specs.Shown.{shown, Blank}
use Rattle.tables.specs.Filling.{cells_up_to, Filling}
use Rattle.tables.specs.Builds.{Accepted, Wiped, Refused}
use Rattle.tables.proofs.Cells.{cell_at}
use Rattle.tables.proofs.Fillings.{states-long}

module _ {S : Type 0} (m : MachineModel S) (d : S) (es : List S) (len : ℕ) (vs : List ℕ) (n : ℕ) (rows : List (List ℕ)) (g : Filling m d es len vs n rows n 0) (e : n ≡ len) where
  found : length (take len es) ≡ len
  found = states-long m d es len vs n rows n 0 g

  pub filled-some : 1 ≤ n
  filled-some = omega (arith, g.grown.some, found)

  pub filled-inside : (i a : ℕ) → i < n → a < alphabet m → cell rows i a < n
  filled-inside i a li la =
      let l : i * alphabet m + a < n * alphabet m + 0 = omega (arith, row_fits (alphabet m) n i a la li) in
      let f = get_d_tabulate (n * alphabet m + 0) (λ k. cell rows (k / alphabet m) (k % alphabet m)) (i * alphabet m + a) 0 l ∙ cell_at rows (alphabet m) i a la in
      omega (arith, g.grown.inside (i * alphabet m + a) (rw length-tabulate l), f, found)

  pub filled-below : RowsBlank rows n
  filled-below i a l =
      elim (cases_lt a (alphabet m)) [
        | inl la ↦ g.unfilled i a la (omega (arith, mul-le-mul_right (alphabet m) l))
        | inr past ↦ g.beside i a past
      ]

  pub filled-built : (t : Grid) → t.count ≡ n → values_of t.rows ≡ vs → cells_of t.rows ≡ rows → t.signs.count ≡ alphabet m → Built m (shown t) (take len es)
  filled-built t c v r k =
      let z : n * alphabet m + 0 ≡ n * alphabet m = omega arith in
      let w = grown_walked g.grown (omega (arith, found)) (length-take-le n vs (omega (arith, g.wide, g.few)) ∙ (e ∙ sym found)) in
      let table : record { values = take n vs; cells = cells_up_to (alphabet m) rows (n * alphabet m + 0) } ≡ shown t =
      ap₂ (λ (xs ys : List ℕ). record { values = xs; cells = ys })
      (sym (ap₂ take c v))
      (ap (cells_up_to (alphabet m) rows) z
      ∙ sym (λ i. tabulate (c i * k i) (λ l. cell (r i) (l / k i) (l % k i)))) in
      subst (λ (u : TableModel). Built m u (take len es)) table (walked_built w)

-- the number of letters, by the signs that a machine hands out
pub letters_are : {S : Type 0} (m : MachineModel S) (signs : Signs) → sign_bytes signs ≡ m.signs → signs.count ≡ alphabet m
letters_are m signs e = sym (sign_count signs) ∙ ap length e

pub accepted : {S : Type 0} (m : MachineModel S) (d : S) (es : List S) (len : ℕ) (n : ℕ) (t : Grid) (signs : Signs) → t.signs ≡ signs → sign_bytes signs ≡ m.signs
    → t.count ≡ n → n ≡ len → Filling m d es len (values_of t.rows) n (cells_of t.rows) n 0 → Accepted m d t es len
accepted m d es len n t signs s h c e g = record {
  signs = ap sign_bytes s ∙ h;
  built = filled-built m d es len (values_of t.rows) n (cells_of t.rows) g e t c refl refl (ap (λ (x : Signs). x.count) s ∙ letters_are m signs h);
  listed = sym e ∙ sym c;
  within = g.within;
  blank = g.fresh;
}

pub wiped : {S : Type 0} (d : S) (es fs : List S) (len : ℕ) (t : Grid) (signs : Signs) (none : ℕ) → Blank signs none t → fs ≡ replicate (length es) d → len ≡ 0
    → Wiped (sign_bytes signs) none d t fs len
wiped d es fs len t signs none b f unlisted =
    let l : length fs ≡ length es = ap length f ∙ length-replicate (length es) d in
    record {
      signed = ap sign_bytes b.signed;
      blank = subst (λ (x : Signs). Blank x none t) (sym b.signed) b;
      unlisted = unlisted;
      blank_roll = f ∙ ap (λ (n : ℕ). replicate n d) (sym l);
    }

-- the same, of a machine of this kind with these signs
pub wiped_of : {S R : Type 0} (m : MachineModel S) (K : KindModel) (signs : List ℕ) (d : R) (t : Grid) (es : List R) (len : ℕ) → signs ≡ m.signs → m.kind ≡ K
    → Wiped signs K.none d t es len → Wiped m.signs m.kind.none d t es len
wiped_of m K signs d t es len h k w =
    subst (λ (x : KindModel). Wiped m.signs x.none d t es len) (sym k) (subst (λ (x : List ℕ). Wiped x K.none d t es len) h w)

pub refused : {S : Type 0} (m : MachineModel S) (K : KindModel) (d : S) (es fs : List S) (len : ℕ) (t : Grid) (signs : Signs) → sign_bytes signs ≡ m.signs → m.kind ≡ K
    → Spread m (suc (min 128 (length es))) → length fs ≡ length es → Wiped (sign_bytes signs) K.none d t fs len → Refused m d t fs len
refused {S} m K d es fs len t signs h k s l w =
    let v = wiped_of m K (sign_bytes signs) d t fs len h k w in
    record {
      many = subst (λ (n : ℕ). Spread m (suc (min 128 n))) (sym l) s;
      signs = v.signed;
      blank = v.blank;
      unlisted = v.unlisted;
      blank_roll = v.blank_roll;
    }

-- what a refused build leaves is wiped
pub left_wiped : {S : Type 0} (m : MachineModel S) (d : S) (t : Grid) (es : List S) (len : ℕ) → Refused m d t es len → Wiped m.signs m.kind.none d t es len
left_wiped m d t es len r = record { signed = r.signs; blank = r.blank; unlisted = r.unlisted; blank_roll = r.blank_roll }
