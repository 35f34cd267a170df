-- A text has one reading through a table, and it can be computed.
use Rattle.std.proofs.Common.{◌≡◌, ℕ, zero, suc, ◌+◌, ◌<◌, Bool, true, false, cond, ◌&&◌, eqb, ◌↔◌, List, [], ◌∷◌, length, get_or, take, Some, None, Ok, Err, Option, Result, sym, refl, ap, ◌∙◌, subst, ap₂, inl, inr, true≢false, arith}
use Rattle.std.proofs.lemmas.List.{take_all}
use Rattle.std.proofs.lemmas.Bool.{cases_order, cond_both, eqb-true, eqb-false, and_parts}
use Rattle.kinds.specs.Kinds.{KindModel, clean}
use Rattle.automata.specs.Shown.{sign_bytes}
use Rattle.machines.specs.Tables.{TableModel, table_step}
use Rattle.tables.specs.declared.grid.Grid.{Grid}
use Rattle.tables.specs.Shown.{shown}
use Rattle.views.specs.TableViews.{value_of_state}
use Rattle.views.specs.TableSays.{table_says}
use Rattle.lookup.specs.declared.faults.ValueFault.{ValueFault}
use Rattle.lookup.specs.declared.faults.ValueFault.TheVariants.{NoSign}
use Rattle.lookup.specs.Lookups.{Spells, NoLetter, LetterOf, Valued, BestTo, Best, kept}
use Rattle.lookup.proofs.Spelling.{spell_one, stops, signs_apart, Led, led-none, led-more, led-says, keep_first, keep_more, best_stops}
use Rattle.cases.specs.Cases.{Reading, ReadAs, AllRead}

-- the letter of a byte, by a search through the signs
abbrev later : Option ℕ → Option ℕ
later None = None
later (Some a) = Some (suc a)

abbrev letter_in : List ℕ → ℕ → Option ℕ
letter_in [] byte = None
letter_in (x ∷ xs) byte = cond (eqb x byte) (Some 0) (later (letter_in xs byte))

later-right : (x : ℕ) (xs : List ℕ) (byte : ℕ) → eqb x byte ≡ false → (o : Option ℕ) → LetterOf xs byte o → LetterOf (x ∷ xs) byte (later o)
later-right x xs byte e (Some a) (l, h) = (omega arith, h)
later-right x xs byte e None none = other
  where
    other : NoLetter (x ∷ xs) byte
    other zero l h = eqb-false x byte e h
    other (suc a) l h = none a (omega arith) h

letter-right : (signs : List ℕ) (byte : ℕ) → LetterOf signs byte (letter_in signs byte)
letter-right [] byte = λ a l. absurd (omega arith)
letter-right (x ∷ xs) byte =
    cond_both (eqb x byte) (Some 0) (later (letter_in xs byte)) (LetterOf (x ∷ xs) byte)
    (λ e. (omega arith, eqb-true x byte e))
    (λ e. later-right x xs byte e (letter_in xs byte) (letter-right xs byte))

-- what reading a text answers: of the whole, and of its longest front part
abbrev Answer : Type 0
Answer = Result ℕ ValueFault × Option (ℕ × ℕ)

-- on with the letter, or an end where there is none
abbrev onward : Answer → (ℕ → Answer) → Option ℕ → Answer
onward end go None = end
onward end go (Some a) = go a

module _ (K : KindModel) (signs : List ℕ) (m : TableModel) where
  abbrev keep : Option (ℕ × ℕ) → ℕ → ℕ → Option (ℕ × ℕ)
  keep best end state = kept K.none best end (clean K (value_of_state K m state))

  abbrev step : ℕ → ℕ → ℕ
  step state a = table_step (length signs) m state a

  -- the answer from the place k on, where n bytes are left: the state there, and the best front part up to it
  abbrev walk : List ℕ → ℕ → ℕ → ℕ → Option (ℕ × ℕ) → Answer
  walk text k zero state best = (Ok (clean K (value_of_state K m state)), best)
  walk text k (suc n) state best =
      onward (Err (NoSign k), best) (λ a. walk text (k + 1) n (step state a) (keep best (k + 1) (step state a))) (letter_in signs (get_or text k 0))

  abbrev answer : List ℕ → Answer
  answer text = walk text 0 (length text) 0 (keep None 0 0)

module _ (K : KindModel) (t : Grid) (text : List ℕ) where
  abbrev signs : List ℕ
  signs = sign_bytes t.signs

  abbrev Right : Answer → Type 0
  Right r = Valued K t text r.0 × Best K t text r.1

  whole : take (length text) text ≡ text
  whole = take_all (length text) text (omega arith)

  -- the walk is right from each place to which it comes
  walk-right : (k n state : ℕ) (best : Option (ℕ × ℕ)) → k + n ≡ length text → Led K t text k state → BestTo K t text k best
      → Right (walk K signs (shown t) text k n state best)
  walk-right k zero state best e r b =
      let all : k ≡ length text = omega (arith, e) in (
        (r.0, subst (λ x. Spells signs x r.0) (ap (λ i. take i text) all ∙ whole) r.1, led-says K t text k state r),
        subst (λ i. BestTo K t text i best) all b,
      )
  walk-right k (suc n) state best e r b =
      next (letter_in signs (get_or text k 0)) (letter-right signs (get_or text k 0)) (λ a led more. walk-right (k + 1) n (to a) (better a) (omega (arith, e)) led more)
    where
      within : k < length text
      within = omega (arith, e)

      to : ℕ → ℕ
      to a = step K signs (shown t) state a

      better : ℕ → Option (ℕ × ℕ)
      better a = keep K signs (shown t) best (k + 1) (to a)

      rest : ℕ → Answer
      rest a = walk K signs (shown t) text (k + 1) n (to a) (better a)

      next : (o : Option ℕ) → LetterOf signs (get_or text k 0) o → ((a : ℕ) → Led K t text (k + 1) (to a) → BestTo K t text (k + 1) (better a) → Right (rest a))
          → Right (onward (Err (NoSign k), best) rest o)
      next None none on = ((within, none, (r.0, r.1)), best_stops K t text k best none within b)
      next (Some a) (l, h) on =
          let led = led-more K t text k state a (to a) r within l h refl in
          on a led (keep_more K t text k (to a) best led b)

  answer-right : Right (answer K signs (shown t) text)
  answer-right = walk-right 0 (length text) 0 _ (omega arith) (led-none K t text) (keep_first K t text 0 (led-none K t text))

  same_word : (x u v : List ℕ) → Spells signs x u → Spells signs x v → table_says K t u ≡ table_says K t v
  same_word x u v s r = ap (table_says K t) (spell_one signs (signs_apart t.signs) x u v s r)

  -- a text that spells a word has no byte that is no sign
  no_fault : (v k : ℕ) → Valued K t text (Ok v) → Valued K t text (Err (NoSign k)) → ⊥
  no_fault v k (w, s, e) (l, none, f) = stops signs text w k (length text) none l (omega arith) (subst (λ x. Spells signs x w) (sym whole) s)

  one-fault : (k j : ℕ) → Valued K t text (Err (NoSign k)) → Valued K t text (Err (NoSign j)) → k ≡ j
  one-fault k j (l, none, f) (l', none', f') =
      elim (cases_order k j) [
        | inl same ↦ same
        | inr o ↦ elim o [
          | inl lt ↦ absurd (stops signs text f'.0 k j none lt (omega arith) f'.1)
          | inr gt ↦ absurd (stops signs text f.0 j k none' gt (omega arith) f.1)
        ]
      ]

  one_value : (x y : Result ℕ ValueFault) → Valued K t text x → Valued K t text y → x ≡ y
  one_value (Ok v) (Ok u) (w, s, e) (w', s', e') = ap Ok (e ∙ (same_word text w w' s s' ∙ sym e'))
  one_value (Ok v) (Err (NoSign k)) p q = absurd (no_fault v k p q)
  one_value (Err (NoSign k)) (Ok v) p q = absurd (no_fault v k q p)
  one_value (Err (NoSign k)) (Err (NoSign j)) p q = ap (λ i. Err (NoSign i)) (one-fault k j p q)

  no_front : (b : ℕ × ℕ) → Best K t text None → Best K t text (Some b) → ⊥
  no_front b none e = e.some (e.spelled.2 ∙ none b.0 (omega arith) e.within e.spelled.0 e.spelled.1)

  one-front : (b c : ℕ × ℕ) → Best K t text (Some b) → Best K t text (Some c) → b ≡ c
  one-front (i, v) (j, u) p q =
      elim (cases_order i j) [
        | inl same ↦ ap₂ (λ (x y : ℕ). (x, y)) same (p.spelled.2 ∙ (same_word (take j text) p.spelled.0 q.spelled.0 (subst (λ x. Spells signs (take x text) p.spelled.0) same p.spelled.1) q.spelled.1 ∙ sym q.spelled.2))
        | inr o ↦ elim o [
          | inl lt ↦ absurd (q.some (q.spelled.2 ∙ p.longer j lt q.within q.spelled.0 q.spelled.1))
          | inr gt ↦ absurd (p.some (p.spelled.2 ∙ q.longer i gt p.within p.spelled.0 p.spelled.1))
        ]
      ]

  one-best : (x y : Option (ℕ × ℕ)) → Best K t text x → Best K t text y → x ≡ y
  one-best None None p q = refl
  one-best None (Some b) p q = absurd (no_front b p q)
  one-best (Some b) None p q = absurd (no_front b q p)
  one-best (Some b) (Some c) p q = ap Some (one-front b c p q)

  -- so the answer is the one reading
  only : (r : Answer) → answer K signs (shown t) text ≡ r → ((x : Result ℕ ValueFault) → Valued K t text x ↔ (x ≡ r.0)) × ((x : Option (ℕ × ℕ)) → Best K t text x ↔ (x ≡ r.1))
  only r e =
      let right : Right r = subst Right e answer-right in (
        λ x. (λ h. one_value x r.0 h right.0, λ h. subst (Valued K t text) (sym h) right.0),
        λ x. (λ h. one-best x r.1 h right.1, λ h. subst (Best K t text) (sym h) right.1),
      )

abbrev same_value : Result ℕ ValueFault → Result ℕ ValueFault → Bool
same_value (Ok v) (Ok u) = eqb v u
same_value (Ok v) (Err f) = false
same_value (Err f) (Ok u) = false
same_value (Err (NoSign k)) (Err (NoSign j)) = eqb k j

value-told : (x y : Result ℕ ValueFault) → same_value x y ≡ true → x ≡ y
value-told (Ok v) (Ok u) e = ap Ok (eqb-true v u e)
value-told (Ok v) (Err f) e = absurd (true≢false (sym e))
value-told (Err f) (Ok u) e = absurd (true≢false (sym e))
value-told (Err (NoSign k)) (Err (NoSign j)) e = ap (λ i. Err (NoSign i)) (eqb-true k j e)

abbrev same_front : Option (ℕ × ℕ) → Option (ℕ × ℕ) → Bool
same_front None None = true
same_front None (Some c) = false
same_front (Some b) None = false
same_front (Some b) (Some c) = eqb b.0 c.0 && eqb b.1 c.1

front-told : (x y : Option (ℕ × ℕ)) → same_front x y ≡ true → x ≡ y
front-told None None e = refl
front-told None (Some c) e = absurd (true≢false (sym e))
front-told (Some b) None e = absurd (true≢false (sym e))
front-told (Some (i, v)) (Some (j, u)) e =
    let h = and_parts (eqb i j) (eqb v u) e in
    ap₂ (λ (x y : ℕ). Some (x, y)) (eqb-true i j h.0) (eqb-true v u h.1)

module _ (K : KindModel) where
  abbrev reads : List ℕ → TableModel → Reading → Bool
  reads s m r = same_value (answer K s m r.text).0 r.value && same_front (answer K s m r.text).1 r.front

  abbrev pub all_reads : List ℕ → TableModel → List Reading → Bool
  all_reads s m [] = true
  all_reads s m (r ∷ rs) = reads s m r && all_reads s m rs

  module _ (t : Grid) (s : List ℕ) (m : TableModel) (es : sign_bytes t.signs ≡ s) (em : shown t ≡ m) where
    reads-right : (r : Reading) → reads s m r ≡ true → ReadAs K t r
    reads-right r e =
        let a = answer K s m r.text in
        let h = and_parts (same_value a.0 r.value) (same_front a.1 r.front) e in
        only K t r.text (r.value, r.front)
        (ap₂ (λ (x : List ℕ) (y : TableModel). answer K x y r.text) es em
        ∙ ap₂ (λ (x : Result ℕ ValueFault) (y : Option (ℕ × ℕ)). (x, y)) (value-told a.0 r.value h.0) (front-told a.1 r.front h.1))

    pub all_read : (rs : List Reading) → all_reads s m rs ≡ true → AllRead K t rs
    all_read [] e = tt
    all_read (r ∷ rs) e = let h = and_parts (reads s m r) (all_reads s m rs) e in (reads-right r h.0, all_read rs h.1)
