-- Lines put one after another.
use Rattle.std.proofs.Common.{◌≡◌, ℕ, zero, suc, ◌+◌, Bool, true, false, cond, List, [], ◌∷◌, ◌++◌, map, length, get_or, sym, refl, ap, ◌∙◌, subst, append_assoc, append-nil, add-one}
use mathlib.Core.List.{map-append}
use Rattle.fields.specs.Pieces.{ended}
use Rattle.fields.specs.Writing.{PutsCut}
use Rattle.fields.specs.declared.writing.Writer.{Writer}
use Rattle.fields.proofs.Placed.{cut_none, cut_then}
use Rattle.drafts.specs.declared.calls.Call.{Call}
use Rattle.drafts.specs.declared.calls.Call.TheVariants.{Grow}
use Rattle.automata.specs.Drafts.{DraftModel, size}
use Rattle.drafts.specs.Canonical.{each_below, grow_calls, enter_calls, link_calls}
use Rattle.texts.specs.declared.letters.KindLetter.{KindLetter}
use Rattle.texts.specs.Grammar.{line_of, head_fields, call_fields, written}
use Rattle.texts.specs.Writing.{ended_line, call_lines, grow_call}

-- the same text by another name
pub puts_as : {a b : Writer} {s t : List ℕ} → s ≡ t → PutsCut a b s → PutsCut a b t
puts_as {a} {b} q p = subst (λ (x : List ℕ). PutsCut a b x) q p

pub ended-append : (b : ℕ) (ps qs : List (List ℕ)) → ended b (ps ++ qs) ≡ ended b ps ++ ended b qs
ended-append b [] qs = refl
ended-append b (p ∷ ps) qs =
    ap (λ (t : List ℕ). p ++ (b ∷ t)) (ended-append b ps qs) ∙ sym (append_assoc p (b ∷ ended b ps) (ended b qs))

-- ---- lists made place by place

pub each_more : {A : Type 0} (n : ℕ) (f : ℕ → List A) → each_below (n + 1) f ≡ each_below n f ++ f n
each_more n f = ap (λ (k : ℕ). each_below k f) (add-one n)

pub each_first : {A : Type 0} (n : ℕ) (f : ℕ → List A) → each_below (suc n) f ≡ f 0 ++ each_below n (λ k. f (suc k))
each_first zero f = sym (append-nil (f 0))
each_first (suc n) f = ap (λ (xs : List _). xs ++ f (suc n)) (each_first n f) ∙ append_assoc (f 0) (each_below n (λ k. f (suc k))) (f (suc n))

pub map_each : {A B : Type 0} (f : A → B) (d : A) (xs : List A) → map f xs ≡ each_below (length xs) (λ k. f (get_or xs k d) ∷ [])
map_each f d [] = refl
map_each f d (x ∷ xs) = ap (λ (ys : List _). f x ∷ ys) (map_each f d xs) ∙ sym (each_first (length xs) (λ k. f (get_or (x ∷ xs) k d) ∷ []))

pub grow_each : (d : DraftModel) → grow_calls d ≡ each_below (size d) (grow_call d)
grow_each d = map_each Grow 0 d.values

-- ---- the lines of calls

module _ (signs : List ℕ) where
  pub lines-append : (xs ys : List Call) → call_lines signs (xs ++ ys) ≡ call_lines signs xs ++ call_lines signs ys
  lines-append xs ys =
      ap (ended 10) (map-append (λ c. line_of (call_fields signs c)) xs ys)
      ∙ ended-append 10 (map (λ c. line_of (call_fields signs c)) xs) (map (λ c. line_of (call_fields signs c)) ys)

  pub lines_each : (n : ℕ) (f : ℕ → List Call) → call_lines signs (each_below n f) ≡ each_below n (λ i. call_lines signs (f i))
  lines_each zero f = refl
  lines_each (suc n) f = lines-append (each_below n f) (f n) ∙ ap (λ (t : List ℕ). t ++ call_lines signs (f n)) (lines_each n f)

  -- the lines of each number put in order are the lines of all of them
  pub puts_each : {a b : Writer} {k : ℕ} (n : ℕ) (f : ℕ → List Call) → k ≡ n → PutsCut a b (each_below k (λ i. call_lines signs (f i))) → PutsCut a b (call_lines signs (each_below n f))
  puts_each n f e p = puts_as (ap (λ (k : ℕ). each_below k (λ i. call_lines signs (f i))) e ∙ sym (lines_each n f)) p

  -- calls under a test
  pub puts_when : {a b : Writer} (t : Bool) (cs : List Call) → t ≡ true → PutsCut a b (call_lines signs cs)
      → PutsCut a b (call_lines signs (cond t cs []))
  puts_when t cs q p = puts_as (ap (λ (x : Bool). call_lines signs (cond x cs [])) (sym q)) p

  pub puts_unless : (a : Writer) (t : Bool) (cs : List Call) → t ≡ false → PutsCut a a (call_lines signs (cond t cs []))
  puts_unless a t cs q = puts_as (ap (λ (x : Bool). call_lines signs (cond x cs [])) (sym q)) (cut_none a)

-- ---- the text of a draft

pub written-parts : (k : KindLetter) (d : DraftModel)
    → written k d
    ≡ ended_line (head_fields k d.signs) ++ (call_lines d.signs (grow_calls d) ++ (call_lines d.signs (enter_calls d) ++ call_lines d.signs (link_calls d)))
written-parts k d =
    let ends = lines-append d.signs (enter_calls d) (link_calls d) in
    let all = lines-append d.signs (grow_calls d) (enter_calls d ++ link_calls d) in
    ap (λ (t : List ℕ). line_of (head_fields k d.signs) ++ (10 ∷ t)) (all ∙ ap (λ (t : List ℕ). call_lines d.signs (grow_calls d) ++ t) ends)
    ∙ sym (append_assoc (line_of (head_fields k d.signs)) (10 ∷ []) _)

-- the four parts put one after another
pub puts_draft : {a b c e f : Writer} (kind : KindLetter) (d : DraftModel) → PutsCut a b (ended_line (head_fields kind d.signs))
    → PutsCut b c (call_lines d.signs (grow_calls d)) → PutsCut c e (call_lines d.signs (enter_calls d)) → PutsCut e f (call_lines d.signs (link_calls d))
    → PutsCut a f (written kind d)
puts_draft kind d p q r s = puts_as (sym (written-parts kind d)) (cut_then p (cut_then q (cut_then r s)))
