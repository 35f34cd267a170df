-- How long texts can be.
use Rattle.std.proofs.Common.{◌≡◌, ℕ, zero, suc, ◌+◌, ◌*◌, ◌^◌, ◌<◌, ◌≤◌, Bool, cond, List, [], ◌∷◌, ◌++◌, length, get_or, decimal, ap, suc-mul, zero-mul, arith, length-append}
use Rattle.std.proofs.lemmas.Bool.{cond_both}
use Rattle.std.proofs.lemmas.Fmt.{length-decimal-le}
use Rattle.fields.proofs.Numerals.{length-decimal}
use Rattle.drafts.specs.declared.calls.Call.{Call}
use Rattle.drafts.specs.declared.calls.Call.TheVariants.{Grow, Enter}
use Rattle.automata.specs.declared.automaton.Automaton.{Automaton}
use Rattle.automata.specs.Drafts.{DraftModel, size, letters}
use Rattle.drafts.specs.Canonical.{each_below, grow_calls, enter_calls, link_calls}
use Rattle.automata.specs.Held.{row_of}
use Rattle.automata.specs.Shown.{shown}
use Rattle.automata.proofs.ShownLaws.{shown-size, shown-letters, shown-code}
use Rattle.drafts.specs.Calls.{link}
use Rattle.texts.specs.declared.letters.KindLetter.{KindLetter}
use Rattle.texts.specs.declared.faults.Refusal.{Refusal}
use Rattle.texts.specs.Grammar.{head_fields, written}
use Rattle.texts.specs.Writing.{ended_line, call_lines, grow_call, enter_call, link_call, links_by, links_from, refusal_line}
use Rattle.texts.proofs.LinesPut.{grow_each, lines-append, written-parts}

module _ (signs : List ℕ) where
  -- the lines at n places, of at most `most` bytes at each
  pub length-each : (n most : ℕ) (f : ℕ → List Call) → ((k : ℕ) → k < n → length (call_lines signs (f k)) ≤ most)
      → length (call_lines signs (each_below n f)) ≤ n * most
  length-each zero most f h = omega (arith, zero-mul most)
  length-each (suc n) most f h =
      omega (
        arith,
        ap length (lines-append signs (each_below n f) (f n)),
        length-append (call_lines signs (each_below n f)) (call_lines signs (f n)),
        suc-mul n most,
        length-each n most f (λ k l. h k (omega arith)),
        h n (omega arith),
      )

  pub length_grow : (v : ℕ) → v < 256 → length (call_lines signs (Grow v ∷ [])) ≤ 6
  length_grow v h = simp length-append (omega (arith, length-decimal v (omega arith)))

  pub length_enter : (p : ℕ) → p < 256 → length (call_lines signs (Enter p ∷ [])) ≤ 6
  length_enter p h = simp length-append (omega (arith, length-decimal p (omega arith)))

  pub length_link : (p a q : ℕ) → p < 256 → q < 256 → length (call_lines signs (link p a q ∷ [])) ≤ 12
  length_link p a q hp hq = simp length-append (omega (arith, length-decimal p (omega arith), length-decimal q (omega arith)))

  -- calls under a test
  pub length_when : (t : Bool) (cs : List Call) (most : ℕ) → length (call_lines signs cs) ≤ most → length (call_lines signs (cond t cs [])) ≤ most
  length_when t cs most h = cond_both t cs [] (λ xs. length (call_lines signs xs) ≤ most) (λ _. h) (λ _. omega arith)

pub length_head : (k : KindLetter) (signs : List ℕ) → length (ended_line (head_fields k signs)) ≡ length signs + 5
length_head k signs = simp length-append (omega arith)

-- a draft of at most 32 states and 16 letters
module _ (d : DraftModel) (few : size d ≤ 32) (lettered : letters d ≤ 16) (bytes : (p : ℕ) → p < size d → get_or d.values p 0 < 256) where
  pub length-grow_calls : length (call_lines d.signs (grow_calls d)) ≤ 192
  length-grow_calls =
      omega (
        arith,
        ap (λ (cs : List Call). length (call_lines d.signs cs)) (grow_each d),
        length-each d.signs (size d) 6 (grow_call d) (λ p l. length_grow d.signs (get_or d.values p 0) (bytes p l)),
      )

  pub length-enter_calls : length (call_lines d.signs (enter_calls d)) ≤ 192
  length-enter_calls =
      omega (
        arith,
        length-each d.signs (size d) 6 (enter_call d)
            (λ p l. length_when d.signs (d.entry p) (Enter p ∷ []) 6 (length_enter d.signs p (omega arith))),
      )

  pub length-links_by : (p a : ℕ) → p < size d → length (call_lines d.signs (links_by d p a)) ≤ 384
  length-links_by p a l =
      omega (
        arith,
        length-each d.signs (size d) 12 (link_call d p a)
            (λ q m. length_when d.signs (d.arrow p a q) (link p a q ∷ []) 12 (length_link d.signs p a q (omega arith) (omega arith))),
      )

  pub length-links_from : (p : ℕ) → p < size d → length (call_lines d.signs (links_from d p)) ≤ 6144
  length-links_from p l = omega (arith, length-each d.signs (letters d) 384 (links_by d p) (λ a _. length-links_by p a l))

  pub length-link_calls : length (call_lines d.signs (link_calls d)) ≤ 196608
  length-link_calls = omega (arith, length-each d.signs (size d) 6144 (links_from d) length-links_from)

  pub length-written : (k : KindLetter) → length (written k d) ≤ 197013
  length-written k =
      let s = call_lines d.signs (grow_calls d) in
      let e = call_lines d.signs (enter_calls d) in
      let l = call_lines d.signs (link_calls d) in
      omega (
        arith,
        ap length (written-parts k d),
        length-append (ended_line (head_fields k d.signs)) (s ++ (e ++ l)),
        length-append s (e ++ l),
        length-append e l,
        length_head k d.signs,
        length-grow_calls,
        length-enter_calls,
        length-link_calls,
      )

pub length-shown : (k : KindLetter) (d : Automaton) → length (written k (shown d)) ≤ 197013
length-shown k d =
    length-written (shown d) (omega (arith, shown-size d, d.few)) (omega (arith, shown-letters d, d.signs.few))
    (λ p l. let m : p < d.count = omega (arith, shown-size d) in omega (arith, shown-code d p m, (row_of d.rows p).byte)) k

-- a number of 64 bits has at most 20 digits
pub length-number : (n : ℕ) → n < 2 ^ 64 → length (decimal n) ≤ 20
length-number n h = length-decimal-le 20 n (omega arith) (omega arith) h

pub length-refusal : (r : Refusal) → r.number < 2 ^ 64 → r.line < 2 ^ 64 → r.field < 2 ^ 64 → r.inner < 2 ^ 64 → length (refusal_line r) ≤ 86
length-refusal r a b c d =
    simp length-append (omega (arith, length-number r.number a, length-number r.line b, length-number r.field c, length-number r.inner d))
