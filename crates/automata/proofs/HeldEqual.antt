-- Two automata that hold the same are equal, since nothing lies past the counts.
use Rattle.std.proofs.Common.{◌≡◌, ℕ, ◌<◌, ◌≤◌, List, length, get_or, take, sym, ap, ◌∙◌, inl, inr, arith}
use mathlib.Core.HLevel.{is_prop→PathP}
use denote.Struct.Props.{props}
use Rattle.std.proofs.lemmas.List.{get_or-take, ext_get_or}
use Rattle.std.proofs.lemmas.Bool.{cases_lt}
use Rattle.automata.specs.declared.signs.Signs.{Signs}
use Rattle.automata.specs.declared.automaton.Automaton.{Automaton}
use Rattle.automata.specs.declared.row.Row.{Row}
use Rattle.automata.specs.Sets.{has, no_states}
use Rattle.automata.specs.Signs.{Visible, Apart, BlankPast}
use Rattle.automata.specs.Held.{Within, blank_row, row_of, ends_of, CodesPast, Linked}
use Rattle.automata.specs.Drafts.{DraftModel, size}
use Rattle.automata.specs.Shown.{sign_bytes, shown}
use Rattle.automata.proofs.SetLaws.{same_members}
use Rattle.automata.proofs.ShownLaws.{sign_count, shown-size, shown-code}

-- what stands before the count, and 0 past it, fixes all places
pub filled : (m n : ℕ) (xs ys : List ℕ) → length xs ≡ m → length ys ≡ m → take n xs ≡ take n ys → BlankPast xs n → BlankPast ys n → xs ≡ ys
filled m n xs ys lx ly e bx by =
    ext_get_or 0 xs ys (lx ∙ sym ly)
    (λ k l. elim (cases_lt k n) [
      | inl low ↦ sym (get_or-take n xs k 0 low) ∙ (ap (λ (zs : List ℕ). get_or zs k 0) e ∙ get_or-take n ys k 0 low)
      | inr past ↦ bx k past ∙ sym (by k past)
    ])

signs_by : (s t : Signs) → s.bytes ≡ t.bytes → s.count ≡ t.count → s ≡ t
signs_by s t b n = λ i. record {
  bytes = b i;
  count = n i;
  wide = is_prop→PathP (λ j. length (b j) ≡ 16) (λ j. hlevel props) s.wide t.wide i;
  some = is_prop→PathP (λ j. 1 ≤ n j) (λ j. hlevel props) s.some t.some i;
  few = is_prop→PathP (λ j. n j ≤ 16) (λ j. hlevel props) s.few t.few i;
  visible = is_prop→PathP (λ j. Visible (b j) (n j)) (λ j. hlevel props) s.visible t.visible i;
  apart = is_prop→PathP (λ j. Apart (b j) (n j)) (λ j. hlevel props) s.apart t.apart i;
  blank = is_prop→PathP (λ j. BlankPast (b j) (n j)) (λ j. hlevel props) s.blank t.blank i;
}

-- a sign list is known by its signs
pub same-signs : (s t : Signs) → sign_bytes s ≡ sign_bytes t → s ≡ t
same-signs s t e =
    let n : s.count ≡ t.count = sym (sign_count s) ∙ (ap length e ∙ sign_count t) in
    signs_by s t
    (filled 16 s.count s.bytes t.bytes s.wide t.wide (e ∙ ap (λ (k : ℕ). take k t.bytes) (sym n)) s.blank (λ k l. t.blank k (omega arith))) n

row_by : (r s : Row) → r.code ≡ s.code → r.ends ≡ s.ends → r ≡ s
row_by r s c e = λ i. record {
  code = c i;
  ends = e i;
  byte = is_prop→PathP (λ j. c j < 256) (λ j. hlevel props) r.byte s.byte i;
  wide = is_prop→PathP (λ j. length (e j) ≡ 16) (λ j. hlevel props) r.wide s.wide i;
}

automaton_by : (d e : Automaton) → d.signs ≡ e.signs → d.count ≡ e.count → d.rows ≡ e.rows → d.entry_set ≡ e.entry_set → d ≡ e
automaton_by d e s n r m = λ i. record {
  signs = s i;
  count = n i;
  rows = r i;
  entry_set = m i;
  few = is_prop→PathP (λ j. n j ≤ 32) (λ j. hlevel props) d.few e.few i;
  wide = is_prop→PathP (λ j. length (r j) ≡ 32) (λ j. hlevel props) d.wide e.wide i;
  blank = is_prop→PathP (λ j. CodesPast (r j) (n j)) (λ j. hlevel props) d.blank e.blank i;
  linked = is_prop→PathP (λ j. Linked (r j) (n j) (s j).count) (λ j. hlevel props) d.linked e.linked i;
  entered = is_prop→PathP (λ j. Within (m j) (n j)) (λ j. hlevel props) d.entered e.entered i;
}

-- rows with the same codes and the same ends
same_rows : (d e : Automaton) → d.count ≡ e.count → ((p : ℕ) → get_or (shown d).values p 0 ≡ get_or (shown e).values p 0)
    → ((p a q : ℕ) → has (ends_of d.rows p a) q ≡ has (ends_of e.rows p a) q) → d.rows ≡ e.rows
same_rows d e n v h =
    ext_get_or blank_row d.rows e.rows (d.wide ∙ sym e.wide)
    (λ p l. row_by (row_of d.rows p) (row_of e.rows p) (same_code p)
    (ext_get_or no_states (row_of d.rows p).ends (row_of e.rows p).ends ((row_of d.rows p).wide ∙ sym (row_of e.rows p).wide)
    (λ a la. same_members (ends_of d.rows p a) (ends_of e.rows p a) (h p a))))
  where
    same_code : (p : ℕ) → (row_of d.rows p).code ≡ (row_of e.rows p).code
    same_code p =
        elim (cases_lt p d.count) [
          | inl low ↦ sym (shown-code d p low) ∙ (v p ∙ shown-code e p (omega (arith, n)))
          | inr past ↦ d.blank p past ∙ sym (e.blank p (omega (arith, n)))
        ]

pub same_held : (d e : Automaton) → shown d ≡ shown e → d ≡ e
same_held d e h =
    let n : d.count ≡ e.count = sym (shown-size d) ∙ (ap size h ∙ shown-size e) in
    automaton_by d e (same-signs d.signs e.signs (ap (λ (m : DraftModel). m.signs) h)) n
    (same_rows d e n (λ p. ap (λ (m : DraftModel). get_or m.values p 0) h) (λ p a q. ap (λ (m : DraftModel). m.arrow p a q) h))
    (same_members d.entry_set e.entry_set (λ p. ap (λ (m : DraftModel). m.entry p) h))
