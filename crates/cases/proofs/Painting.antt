-- Machines on colourings, worked on short lists of codes.
use Rattle.std.proofs.Common.{◌≡◌, ℕ, ◌<◌, ◌≤◌, Bool, true, false, cond, ◌&&◌, eqb, ltb, List, [], ◌∷◌, map, length, get_or, take, drop, None, Decides, sym, refl, ap, ◌∙◌, inl, inr, true≢false, arith}
use mathlib.Core.Path.{fun_ext}
use Rattle.std.proofs.lemmas.List.{get_or_past, get_or-take, get_or-map, get_or_default, ext_get_or}
use Rattle.std.proofs.lemmas.Bool.{cases_lt, lt-ltb, le-ltb, eqb-true, eq-eqb, and_parts, and_from, cond-true, cond-false}
use Rattle.kinds.specs.Kinds.{KindModel, clean}
use Rattle.kinds.proofs.Joins.{join_all_admitted, clean_admitted}
use Rattle.automata.specs.Signs.{sign_fault}
use Rattle.automata.specs.Drafts.{DraftModel, size}
use Rattle.drafts.specs.Words.{Over, run, tabulate}
use Rattle.drafts.proofs.Tabulates.{length-tabulate, get_d_tabulate}
use Rattle.machines.specs.Models.{MachineModel, Reaches}
use Rattle.machines.specs.Tables.{TableModel, count, table_step}
use Rattle.machines.specs.Built.{Built}
use Rattle.machines.specs.BuildLaws.{Mapped}
use Rattle.views.specs.declared.colouring.Colouring.{Colouring}
use Rattle.views.specs.Colourings.{plain, coloured}
use Rattle.views.specs.DraftViews.{join_over, ends_joined, backward_draft_model}
use Rattle.views.specs.TableViews.{next_code, backward_table_model}
use Rattle.pressing.specs.Press.{code_of_entry}
use Rattle.views.proofs.ColouredLaws.{placed, coloured-length, coloured-at, coloured_is, coloured_state, coloured-none}

abbrev pub same_codes : List ℕ → List ℕ → Bool
same_codes [] [] = true
same_codes [] (y ∷ ys) = false
same_codes (x ∷ xs) [] = false
same_codes (x ∷ xs) (y ∷ ys) = eqb x y && same_codes xs ys

pub codes-told : (xs ys : List ℕ) → Decides (same_codes xs ys) (xs ≡ ys)
codes-told [] [] = (λ _. refl, λ _. refl)
codes-told [] (y ∷ ys) = (λ e. absurd (true≢false (sym e)), λ e. absurd (omega (arith, ap length e)))
codes-told (x ∷ xs) [] = (λ e. absurd (true≢false (sym e)), λ e. absurd (omega (arith, ap length e)))
codes-told (x ∷ xs) (y ∷ ys) = (
  λ e. let p = and_parts (eqb x y) (same_codes xs ys) e in λ i. eqb-true x y p.0 i ∷ (codes-told xs ys).0 p.1 i,
  λ e. and_from (eqb x y) (same_codes xs ys) (eq-eqb x y (ap (λ l. get_or l 0 0) e)) ((codes-told xs ys).1 (ap (drop 1) e)),
)

module _ (K : KindModel) where
  -- the code of a place
  abbrev pub codes_of : List ℕ → ℕ → ℕ
  codes_of cs p = get_or cs p K.none

  abbrev pub codes_in : Colouring → ℕ → ℕ
  codes_in c q = codes_of c.codes q

module _ (K : KindModel) (n : ℕ) where
  coloured-same : (f g : ℕ → ℕ) → ((p : ℕ) → p < n → f p ≡ g p) → coloured K n f ≡ coloured K n g
  coloured-same f g e = coloured_is K n g (coloured K n f) (coloured-length K n f) (λ p l. coloured-at K n f p K.none l ∙ at p)
    where
      at : (p : ℕ) → placed K n f p ≡ placed K n g p
      at p = elim (cases_lt p n) [
        | inl l ↦ ap (λ c. cond (ltb p n) c K.none) (e p l)
        | inr h ↦ cond-false (ltb p n) (f p) K.none (le-ltb p n h) ∙ sym (cond-false (ltb p n) (g p) K.none (le-ltb p n h))
      ]

  -- the colouring of n places with these codes
  abbrev pub paint : List ℕ → Colouring
  paint cs = coloured K n (codes_of K cs)

  module _ (few : n ≤ 128) where
    pub painted : (cs : List ℕ) → length cs ≡ n → (q : ℕ) → get_or (paint cs).codes q K.none ≡ codes_of K cs q
    painted cs e q = elim (cases_lt q n) [
      | inl l ↦ coloured_state K n (codes_of K cs) few q l
      | inr h ↦ coloured-none K n (codes_of K cs) q h ∙ sym (get_or_past cs q K.none (omega arith))
    ]

    paint-apart : (cs ds : List ℕ) → length cs ≡ n → length ds ≡ n → paint cs ≡ paint ds → cs ≡ ds
    paint-apart cs ds lc ld e =
        ext_get_or K.none cs ds (lc ∙ sym ld) (λ i l. sym (painted cs lc i) ∙ ap (λ (c : Colouring). get_or c.codes i K.none) e ∙ painted ds ld i)

-- What a machine does with codes, a list of them or a colouring: how many places it uses, the codes at first, and, of the codes at hand,
-- the code of a place after a letter and the value.
pub record Coding (K : KindModel) : Type 0 where
  pub places : ℕ
  pub start : List ℕ
  pub long : length start ≡ places
  pub code : (ℕ → ℕ) → ℕ → ℕ → ℕ
  pub value : (ℕ → ℕ) → ℕ
  pub admitted : (g : ℕ → ℕ) → K.admits (value g) ≡ true

module _ {K : KindModel} (signs : List ℕ) (ok : sign_fault signs ≡ None) (g : Coding K) where
  abbrev codes_next : List ℕ → ℕ → List ℕ
  codes_next s a = tabulate g.places (g.code (codes_of K s) a)

  -- on lists of codes
  abbrev pub code_machine : MachineModel (List ℕ)
  code_machine = record {
    kind = K;
    signs = signs;
    start = g.start;
    step = λ s a. cond (ltb a (length signs)) (codes_next s a) s;
    value = λ s. g.value (codes_of K s);
    acceptable = ok;
    idle = λ s a l. cond-false (ltb a (length signs)) (codes_next s a) s (le-ltb a (length signs) l);
    admitted = λ s. g.admitted (codes_of K s);
  }

  steps_on : (s : List ℕ) (a : ℕ) → a < length signs → code_machine.step s a ≡ codes_next s a
  steps_on s a l = cond-true (ltb a (length signs)) (codes_next s a) s (lt-ltb a (length signs) l)

  run_long : (w : List ℕ) (s : List ℕ) → Over (length signs) w → length s ≡ g.places → length (run code_machine.step s w) ≡ g.places
  run_long [] s o e = e
  run_long (a ∷ w) s o e =
      run_long w (code_machine.step s a) o.1 (ap length (steps_on s a o.0) ∙ length-tabulate g.places (g.code (codes_of K s) a))

  pub reached-long : (s : List ℕ) → Reaches code_machine s → length s ≡ g.places
  reached-long s r = ap length (sym r.2) ∙ run_long r.0 g.start r.1 g.long

  -- k does the same on colourings
  pub record Painted (k : MachineModel Colouring) : Type 0 where
    pub signed : signs ≡ k.signs
    pub starts : paint K g.places g.start ≡ k.start
    pub steps : (c : Colouring) (a : ℕ) → a < length signs → k.step c a ≡ coloured K g.places (g.code (codes_in K c) a)
    pub values : (c : Colouring) → g.value (codes_in K c) ≡ k.value c

  module _ (few : g.places ≤ 128) where
    known : (s : List ℕ) → Reaches code_machine s → codes_in K (paint K g.places s) ≡ codes_of K s
    known s r = fun_ext (painted K g.places few s (reached-long s r))

    pub code-mapped : {k : MachineModel Colouring} → Painted k → Mapped code_machine k (paint K g.places)
    code-mapped {k} h = record {
      signs = h.signed;
      start = h.starts;
      step = λ s a r l.
          ap (paint K g.places) (steps_on s a l)
          ∙ coloured-same K g.places (codes_of K (codes_next s a)) (g.code (codes_of K s) a) (λ p b. get_d_tabulate g.places (g.code (codes_of K s) a) p K.none b)
          ∙ ap (λ f. coloured K g.places (g.code f a)) (sym (known s r))
          ∙ sym (h.steps (paint K g.places s) a l);
      apart = λ s r p q. paint-apart K g.places few s r (reached-long s p) (reached-long r q);
      value = λ s r. ap g.value (sym (known s r)) ∙ h.values (paint K g.places s);
    }

    -- the codes of the states of k, where a roll lists them
    pub listed-codes : {t : TableModel} {xs : List (List ℕ)} → Built code_machine t xs → (es : List Colouring) → (len : ℕ) → len ≡ length xs
        → take len es ≡ map (paint K g.places) xs → (i : ℕ) → i < len → (p : ℕ) → code_of_entry K es i p ≡ codes_of K (get_or xs i []) p
    listed-codes {t} {xs} b es len e listed i l p =
        let h : i < length xs = omega arith in
        ap (λ (c : Colouring). get_or c.codes p K.none)
        (sym (get_or-take len es i (plain 0) l) ∙ ap (λ cs. get_or cs i (plain 0)) listed ∙ get_or-map (paint K g.places) xs i [] (plain 0) h)
        ∙ painted K g.places few (get_or xs i []) (wide h) p
      where
        wide : i < length xs → length (get_or xs i []) ≡ g.places
        wide h =
            let r = b.reached i (omega (arith, b.states)) in
            ap length (get_or_default xs i [] g.start h) ∙ reached-long (get_or xs i g.start) (r.0, r.1.0, r.1.1)

-- A draft read backward.
abbrev pub draft_coding : (K : KindModel) → DraftModel → Coding K
draft_coding K d = record {
  places = size d;
  start = d.values;
  long = refl;
  code = λ g a p. join_over K (size d) (d.arrow p a) g;
  value = join_over K (size d) d.entry;
  admitted = λ g. join_all_admitted K (tabulate (size d) (λ p. cond (d.entry p) (g p) K.none));
}

pub draft-painted : (K : KindModel) (d : DraftModel) (ok : sign_fault d.signs ≡ None) → Painted d.signs ok (draft_coding K d) (backward_draft_model K d ok)
draft-painted K d ok = record {
  signed = refl;
  starts = refl;
  steps = λ c a l. cond-true (ltb a (length d.signs)) (coloured K (size d) (ends_joined K d c a)) c (lt-ltb a (length d.signs) l);
  values = λ c. refl;
}

-- A table over n letters, read backward.
abbrev pub table_coding : (K : KindModel) → ℕ → TableModel → Coding K
table_coding K n t = record {
  places = count t;
  start = t.values;
  long = refl;
  code = λ g a p. g (table_step n t p a);
  value = λ g. clean K (g 0);
  admitted = λ g. clean_admitted K (g 0);
}

pub table-painted : (K : KindModel) (signs : List ℕ) (ok : sign_fault signs ≡ None) (t : TableModel)
    → Painted signs ok (table_coding K (length signs) t) (backward_table_model K signs ok t)
table-painted K signs ok t = record {
  signed = refl;
  starts = refl;
  steps = λ c a l. cond-true (ltb a (length signs)) (coloured K (count t) (next_code K (length signs) t c a)) c (lt-ltb a (length signs) l);
  values = λ c. refl;
}
