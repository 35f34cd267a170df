-- A built table says of every word what its machine says.
use Rattle.std.proofs.Common.{◌≡◌, ℕ, ◌<◌, ◌≤◌, true, ltb, ◌⊎◌, List, [], ◌∷◌, get_or, sym, ap, ◌∙◌, inl, inr}
use Rattle.std.proofs.lemmas.List.{get_or_default, get_or_past}
use Rattle.std.proofs.lemmas.Bool.{cases_lt, lt-ltb, le-ltb, and_from, and_right, cond-true, cond-false}
use Rattle.drafts.specs.Words.{run}
use Rattle.machines.specs.Models.{MachineModel, alphabet, meaning}
use Rattle.machines.specs.Tables.{TableModel, count, next, table_step, Admitted, table_machine_model}
use Rattle.machines.specs.Built.{entry, Built}
use Rattle.machines.proofs.FirstWords.{built_walked}

pub table-steps : (n : ℕ) (t : TableModel) (i a : ℕ) → i < count t → a < n → table_step n t i a ≡ next n t i a
table-steps n t i a h l = cond-true _ (next n t i a) i (and_from (ltb i (count t)) (ltb a n) (lt-ltb i (count t) h) (lt-ltb a n l))

pub table-idle : (n : ℕ) (t : TableModel) (i a : ℕ) → n ≤ a → table_step n t i a ≡ i
table-idle n t i a l = cond-false _ (next n t i a) i (and_right (ltb i (count t)) (ltb a n) (le-ltb a n l))

module _ {S : Type 0} {m : MachineModel S} {t : TableModel} {xs : List S} (b : Built m t xs) where
  value-at : (i : ℕ) → i < count t → get_or t.values i m.kind.none ≡ m.value (entry m xs i)
  value-at i h = get_or_default t.values i m.kind.none 0 h ∙ b.values i h

  pub built-admitted : Admitted m.kind t
  built-admitted i = go (cases_lt i (count t))
    where
      go : (i < count t) ⊎ (count t ≤ i) → m.kind.admits (get_or t.values i m.kind.none) ≡ true
      go (inl h) = ap m.kind.admits (value-at i h) ∙ m.admitted (entry m xs i)
      go (inr h) = ap m.kind.admits (get_or_past t.values i m.kind.none h) ∙ m.kind.none_admitted

  -- from each state, by every word
  reads-from : (w : List ℕ) (i : ℕ) → i < count t → get_or t.values (run (table_step (alphabet m) t) i w) m.kind.none ≡ m.value (run m.step (entry m xs i) w)
  reads-from [] i h = value-at i h
  reads-from (a ∷ w) i h = go (cases_lt a (alphabet m)) (reads-from w)
    where
      says : ℕ → ℕ
      says j = get_or t.values (run (table_step (alphabet m) t) j w) m.kind.none

      go : (a < alphabet m) ⊎ (alphabet m ≤ a)
          → ((i : ℕ) → i < count t → get_or t.values (run (table_step (alphabet m) t) i w) m.kind.none ≡ m.value (run m.step (entry m xs i) w))
          → get_or t.values (run (table_step (alphabet m) t) i (a ∷ w)) m.kind.none ≡ m.value (run m.step (entry m xs i) (a ∷ w))
      go (inl l) rec =
          ap says (table-steps (alphabet m) t i a h l) ∙ rec (next (alphabet m) t i a) (b.inside i a h l)
          ∙ ap (λ s. m.value (run m.step s w)) (sym (b.moves i a h l))
      go (inr l) rec = ap says (table-idle (alphabet m) t i a l) ∙ rec i h ∙ ap (λ s. m.value (run m.step s w)) (sym (m.idle (entry m xs i) a l))

  pub built-reads : (h : Admitted m.kind t) (w : List ℕ) → meaning (table_machine_model m.kind m.signs m.acceptable t h) w ≡ meaning m w
  built-reads h w = reads-from w 0 b.some ∙ ap (λ s. m.value (run m.step s w)) (built_walked b).first
