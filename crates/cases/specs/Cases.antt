-- Worked cases: drafts that are written out, each with what a press, a build in one way, the verdicts on its states and texts read through its table come to.
use Rattle.std.specs.Prelude.{◌≡◌, ℕ, ◌<◌, ◌≤◌, Bool, true, false, ◌↔◌, List, [], ◌∷◌, ◌++◌, map, length, Some, None, Ok, Err, Option, Result, slice_index_or}
use Rattle.kinds.specs.Kinds.{KindModel}
use Rattle.kinds.specs.Delivered.{y_model, r_model, m_model}
use Rattle.automata.specs.Signs.{sign_fault}
use Rattle.automata.specs.Drafts.{DraftModel, size, fresh}
use Rattle.drafts.specs.declared.calls.Call.{Call}
use Rattle.drafts.specs.declared.calls.Call.TheVariants.{Grow, Enter}
use Rattle.drafts.specs.Calls.{link, after_all, outcomes}
use Rattle.machines.specs.Tables.{TableModel, count}
use Rattle.tables.specs.declared.grid.Grid.{Grid}
use Rattle.tables.specs.Shown.{shown}
use Rattle.views.specs.declared.colouring.Colouring.{Colouring}
use Rattle.views.specs.declared.states.Reached.{Reached}
use Rattle.views.specs.Colourings.{plain}
use Rattle.views.specs.DraftViews.{forward_draft_model, backward_draft_model}
use Rattle.lookup.specs.declared.faults.ValueFault.{ValueFault}
use Rattle.lookup.specs.declared.faults.ValueFault.TheVariants.{NoSign}
use Rattle.lookup.specs.Lookups.{Valued, Best}
use Rattle.pressing.specs.declared.faults.PressFault.{PressFault}
use Rattle.pressing.specs.declared.judging.Verdict.{Verdict}
use Rattle.pressing.specs.declared.judging.Verdict.TheVariants.{Atomic, Told}
use Rattle.pressing.specs.Pressed.{Left, TooMany, TwiceFails, DraftPressed}
use Rattle.pressing.specs.Law.{Once}
use Rattle.pressing.specs.Verdicts.{Judged}

-- A text, as bytes, and what comes of reading it through a table.
pub record Reading : Type 0 where
  pub text : List ℕ
  -- the value of the whole text, or the place of its first byte that is no sign
  pub value : Result ℕ ValueFault
  -- the end and the value of the longest front part with a value, or None where there is none
  pub front : Option (ℕ × ℕ)

-- A kind, signs and calls, and what comes of the draft that the calls make.
pub record Case : Type 0 where
  pub kind : KindModel
  pub signs : List ℕ
  pub calls : List Call
  -- the pressed table
  pub table : TableModel
  -- how many states the backward table has
  pub backs : ℕ
  -- how many states one build forward has
  pub onces : ℕ
  -- the verdict on each state
  pub verdicts : List Verdict
  -- texts that are read through the pressed table
  pub readings : List Reading

-- the calls that add states with these values, make these states entries, and add these arrows: from, letter, to
abbrev pub drawn : List ℕ → List ℕ → List (ℕ × ℕ × ℕ) → List Call
drawn values entries arrows = map Grow values ++ map Enter entries ++ map (λ r. link r.0 r.1 r.2) arrows

-- the signs a and b, and the letters that they stand for
abbrev pub ab : List ℕ
ab = 97 ∷ 98 ∷ []

abbrev pub a : ℕ
a = 0

abbrev pub b : ℕ
b = 1

-- a table over two letters, written by its rows: the value, and where each letter leads
abbrev cells_of : List (ℕ × ℕ × ℕ) → List ℕ
cells_of [] = []
cells_of (r ∷ rs) = r.1 ∷ r.2 ∷ cells_of rs

abbrev pub rows : List (ℕ × ℕ × ℕ) → TableModel
rows rs = record { values = map (λ r. r.0) rs; cells = cells_of rs }

-- the draft that the calls make
abbrev pub draft_of : Case → DraftModel
draft_of c = after_all c.kind (fresh c.signs) c.calls

-- no call is refused
abbrev pub all_ok : {T E : Type 0} → List (Result T E) → Bool
all_ok [] = true
all_ok (Ok x ∷ rs) = all_ok rs
all_ok (Err e ∷ rs) = false

-- reading the text through t answers what is written, and nothing else
abbrev pub ReadAs : KindModel → Grid → Reading → Type 0
ReadAs K t r = ((x : Result ℕ ValueFault) → Valued K t r.text x ↔ (x ≡ r.value)) × ((x : Option (ℕ × ℕ)) → Best K t r.text x ↔ (x ≡ r.front))

abbrev pub AllRead : KindModel → Grid → List Reading → Type 0
AllRead K t [] = Unit {0}
AllRead K t (r ∷ rs) = ReadAs K t r × AllRead K t rs

-- What comes of a case is what is written in it.
pub record Fits (c : Case) : Type 0 where
  -- the signs and the calls are accepted
  pub acceptable : sign_fault (draft_of c).signs ≡ None
  pub accepted : all_ok (outcomes c.kind (fresh c.signs) c.calls) ≡ true
  -- whatever a press leaves, the backward table has so many states, and the last table is the table
  pub pressed : (back last : Left Colouring) → DraftPressed c.kind (draft_of c) acceptable back last → (back.table.count ≡ c.backs) × (shown last.table ≡ c.table)
  -- where there is room for so many states, a press is not refused
  pub room : (room room' : ℕ) → c.backs ≤ room → count c.table ≤ room' → (f : PressFault)
      → TwiceFails (backward_draft_model c.kind (draft_of c) acceptable) (plain 0) room room' f → ⊥
  -- whatever a build in one way leaves, its table has so many states
  pub once : (o : Left Reached) → Once c.kind (draft_of c) acceptable o → o.table.count ≡ c.onces
  -- and where there is room for them it is not refused
  pub once_room : (room : ℕ) → c.onces ≤ room → TooMany (forward_draft_model c.kind (draft_of c) acceptable) room → ⊥
  -- each state has a verdict, and whatever a press leaves, that verdict is right and no other
  pub each : length c.verdicts ≡ size (draft_of c)
  pub judged : (back last : Left Colouring) → DraftPressed c.kind (draft_of c) acceptable back last → (q : ℕ) → q < size (draft_of c) → (v : Verdict)
      → Judged c.kind back.entries back.len last.entries last.len q v ↔ (v ≡ slice_index_or c.verdicts q Atomic)
  -- whatever table a press leaves, a text that is read through it answers what is written, and nothing else
  pub read : (back last : Left Colouring) → DraftPressed c.kind (draft_of c) acceptable back last → AllRead c.kind last.table c.readings

abbrev pub AllFit : List Case → Type 0
AllFit [] = Unit {0}
AllFit (c ∷ cs) = Fits c × AllFit cs

-- A draft with no state gives every word none.
abbrev pub bare : Case
bare = record {
  kind = y_model;
  signs = ab;
  calls = drawn [] [] [];
  table = rows ((0, 0, 0) ∷ []);
  backs = 1;
  onces = 1;
  verdicts = [];
  readings = [];
}

-- Words that no ending tells apart reach different states, so one build forward has a state too many; and state 1 is not atomic.
abbrev pub wasteful : Case
wasteful = record {
  kind = y_model;
  signs = ab;
  calls = drawn (0 ∷ 1 ∷ 1 ∷ 1 ∷ []) (0 ∷ []) ((0, a, 1) ∷ (0, a, 2) ∷ (1, a, 3) ∷ (2, b, 3) ∷ (3, a, 3) ∷ (3, b, 3) ∷ []);
  table = rows ((0, 1, 2) ∷ (1, 1, 1) ∷ (0, 2, 2) ∷ []);
  backs = 3;
  onces = 4;
  verdicts = Atomic ∷ Told 0 2 ∷ Atomic ∷ Atomic ∷ [];
  readings = [];
}

-- Two arms that end in different values: one build forward is as good as a press. The texts are aab, baa+, b, ac and the empty one.
abbrev pub ranked : Case
ranked = record {
  kind = r_model;
  signs = ab;
  calls = drawn (0 ∷ 3 ∷ 0 ∷ 7 ∷ []) (0 ∷ []) ((0, a, 1) ∷ (1, a, 1) ∷ (0, b, 2) ∷ (2, a, 3) ∷ (3, a, 3) ∷ []);
  table = rows ((0, 1, 2) ∷ (3, 1, 3) ∷ (0, 4, 3) ∷ (0, 3, 3) ∷ (7, 4, 3) ∷ []);
  backs = 4;
  onces = 5;
  verdicts = Atomic ∷ Atomic ∷ Atomic ∷ Atomic ∷ [];
  readings =
      record { text = 97 ∷ 97 ∷ 98 ∷ []; value = Ok 0; front = Some (2, 3) }
      ∷ record { text = 98 ∷ 97 ∷ 97 ∷ 43 ∷ []; value = Err (NoSign 3); front = Some (3, 7) }
      ∷ record { text = 98 ∷ []; value = Ok 0; front = None }
      ∷ record { text = 97 ∷ 99 ∷ []; value = Err (NoSign 1); front = Some (1, 3) }
      ∷ record { text = []; value = Ok 0; front = None }
      ∷ [];
}

-- The same arrows where both arms end in one value: a press makes one of the two ends.
abbrev pub merged : Case
merged = record {
  kind = y_model;
  signs = ab;
  calls = drawn (0 ∷ 1 ∷ 0 ∷ 1 ∷ []) (0 ∷ []) ((0, a, 1) ∷ (1, a, 1) ∷ (0, b, 2) ∷ (2, a, 3) ∷ (3, a, 3) ∷ []);
  table = rows ((0, 1, 2) ∷ (1, 1, 3) ∷ (0, 1, 3) ∷ (0, 3, 3) ∷ []);
  backs = 4;
  onces = 5;
  verdicts = Atomic ∷ Atomic ∷ Atomic ∷ Atomic ∷ [];
  readings = [];
}

-- Two entries whose values are joined bit by bit.
abbrev pub masked : Case
masked = record {
  kind = m_model;
  signs = ab;
  calls = drawn (1 ∷ 2 ∷ []) (0 ∷ 1 ∷ []) ((0, a, 0) ∷ (1, a, 1) ∷ (1, b, 1) ∷ []);
  table = rows ((3, 0, 1) ∷ (2, 1, 1) ∷ []);
  backs = 2;
  onces = 2;
  verdicts = Atomic ∷ Atomic ∷ [];
  readings = [];
}

-- A state that no word reaches: every word has none, and the state is not atomic.
abbrev pub unreached : Case
unreached = record {
  kind = y_model;
  signs = ab;
  calls = drawn (1 ∷ []) [] [];
  table = rows ((0, 0, 0) ∷ []);
  backs = 2;
  onces = 1;
  verdicts = Told 0 1 ∷ [];
  readings = [];
}

abbrev pub cases : List Case
cases = bare ∷ wasteful ∷ ranked ∷ merged ∷ masked ∷ unreached ∷ []
