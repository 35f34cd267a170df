-- The lines of a text, and what it is read as by them.
use Rattle.std.proofs.Common.{◌≡◌, ℕ, zero, suc, ◌+◌, ◌-◌, ◌<◌, ◌≤◌, Bool, true, ◌&&◌, eqb, ltb, leb, ◌⊎◌, List, [], ◌∷◌, ◌++◌, length, get_or, take, Ok, Err, Result, sym, refl, ap, ◌∙◌, subst, inl, inr, arith, length-append}
use Rattle.std.proofs.lemmas.List.{get_or-append-add, take_at, length_push}
use Rattle.std.proofs.lemmas.Bool.{eqb-true, ltb-true, lt-ltb, le-leb, and_parts, cases_eq, cond-true}
use Rattle.kinds.specs.Kinds.{KindModel}
use Rattle.automata.specs.Drafts.{DraftModel, fresh}
use Rattle.fields.specs.Pieces.{pieces, ended, Free, AllFree}
use Rattle.fields.proofs.Separated.{pieces-some, pieces_cut, pieces-ended, free_nil, free_cons}
use Rattle.texts.specs.declared.letters.KindLetter.{KindLetter}
use Rattle.texts.specs.declared.faults.LineFault.{LineFault}
use Rattle.texts.specs.declared.faults.TextFault.{TextFault}
use Rattle.texts.specs.declared.faults.TextFault.TheVariants.{Line}
use Rattle.texts.specs.Grammar.{kind_of}
use Rattle.texts.specs.Reading.{then, draft_after_line, at_line, draft_after_lines, head_of_line, Drawn, as_drawn, read_all, lines_in, line_ended, read_text}

-- ---- a line in front

-- all pieces but the one behind the last separator
abbrev front : List (List ℕ) → List (List ℕ)
front ps = take (length ps - 1) ps

front_cons : (p : List ℕ) (ps : List (List ℕ)) → 0 < length ps → front (p ∷ ps) ≡ p ∷ front ps
front_cons p ps h =
    let e : suc (length ps) - 1 ≡ suc (length ps - 1) = omega arith in
    ap (λ (n : ℕ). take n (p ∷ ps)) e

pub lines_cut : (l more : List ℕ) → Free 10 l → lines_in (l ++ (10 ∷ more)) ≡ l ∷ lines_in more
lines_cut l more f = ap front (pieces_cut 10 l more f) ∙ front_cons l (pieces 10 more) (pieces-some 10 more)

-- ---- the last byte

-- the last byte stands in the part behind
pub ended-back : (a b : List ℕ) → 0 < length b → line_ended (a ++ b) ≡ line_ended b
ended-back a b h =
    let n = length-append a b in
    let i : length (a ++ b) - 1 ≡ length a + (length b - 1) = omega arith in
    let g : get_or (a ++ b) (length (a ++ b) - 1) 0 ≡ get_or b (length b - 1) 0 =
    ap (λ (k : ℕ). get_or (a ++ b) k 0) i ∙ get_or-append-add a b (length b - 1) 0 in
    let p : ltb 0 (length (a ++ b)) ≡ true = lt-ltb 0 (length (a ++ b)) (omega arith) in
    let q : ltb 0 (length b) ≡ true = lt-ltb 0 (length b) h in
    ap (λ (t : Bool). t && eqb (get_or (a ++ b) (length (a ++ b) - 1) 0) 10) (p ∙ sym q)
    ∙ ap (λ (x : ℕ). ltb 0 (length b) && eqb x 10) g

pub ended_newline : (p : List ℕ) → line_ended (p ++ (10 ∷ [])) ≡ true
ended_newline p = ended-back p (10 ∷ []) (omega arith)

-- what is left behind a line is nothing, or ends in a newline too
pub ended-rest : (l more : List ℕ) → line_ended (l ++ (10 ∷ more)) ≡ true → (more ≡ []) ⊎ (line_ended more ≡ true)
ended-rest l [] h = inl refl
ended-rest l (x ∷ more) h =
    inr (sym (ended-back (10 ∷ []) (x ∷ more) (omega arith)) ∙ (sym (ended-back l (10 ∷ x ∷ more) (omega arith)) ∙ h))

pub ended-parts : (text : List ℕ) → line_ended text ≡ true → (0 < length text) × (get_or text (length text - 1) 0 ≡ 10)
ended-parts text h =
    let p = and_parts (ltb 0 (length text)) (eqb (get_or text (length text - 1) 0) 10) h in
    (ltb-true 0 (length text) p.0, eqb-true (get_or text (length text - 1) 0) 10 p.1)

pub ended_not_free : (text : List ℕ) → line_ended text ≡ true → Free 10 text → ⊥
ended_not_free text h f = let p = ended-parts text h in f (length text - 1) (omega arith) p.1

-- ---- the first line of a text that ends in a newline

-- the lines of a text are its first line and those of what is left
pub record FirstLine (text l more : List ℕ) : Type 0 where
  pub lines : lines_in text ≡ l ∷ lines_in more
  pub rest : (more ≡ []) ⊎ (line_ended more ≡ true)

pub first_line : (text l more : List ℕ) → text ≡ l ++ (10 ∷ more) → Free 10 l → line_ended text ≡ true → FirstLine text l more
first_line text l more e f h = record {
  lines = ap lines_in e ∙ lines_cut l more f;
  rest = ended-rest l more (sym (ap line_ended e) ∙ h);
}

-- ---- a text is its lines

pub lines-ended : (ls : List (List ℕ)) → AllFree 10 ls → lines_in (ended 10 ls) ≡ ls
lines-ended ls f =
    ap front (pieces-ended 10 ls f)
    ∙ take_at ls ([] ∷ []) (length (ls ++ ([] ∷ [])) - 1) (omega (arith, length_push ls []))

pub ended_some : (l : List ℕ) (ls : List (List ℕ)) → line_ended (ended 10 (l ∷ ls)) ≡ true
ended_some l [] = ended_newline l
ended_some l (m ∷ ls) =
    ended-back l (10 ∷ ended 10 (m ∷ ls)) (omega arith)
    ∙ (ended-back (10 ∷ []) (ended 10 (m ∷ ls)) (simp length-append (omega arith)) ∙ ended_some m ls)

-- the first b of a byte string, or that there is none
pub record FirstAt (b : ℕ) (xs : List ℕ) : Type 0 where
  pub before : List ℕ
  pub after : List ℕ
  pub whole : xs ≡ before ++ (b ∷ after)
  pub first : Free b before

pub cut_or_free : (b : ℕ) (xs : List ℕ) → Free b xs ⊎ FirstAt b xs
cut_or_free b [] = inl (free_nil b)
cut_or_free b (x ∷ xs) = go (cases_eq x b) (cut_or_free b xs)
  where
    go : (x ≡ b) ⊎ (x ≡ b → ⊥) → Free b xs ⊎ FirstAt b xs → Free b (x ∷ xs) ⊎ FirstAt b (x ∷ xs)
    go (inl e) r = inr (record { before = []; after = xs; whole = ap (λ (y : ℕ). y ∷ xs) e; first = free_nil b })
    go (inr n) (inl f) = inl (free_cons b x xs n f)
    go (inr n) (inr c) = inr (record {
      before = x ∷ c.before;
      after = c.after;
      whole = ap (λ (ys : List ℕ). x ∷ ys) c.whole;
      first = free_cons b x c.before n c.first;
    })

-- the text is its lines, which have no newline in them
abbrev Rejoins : List ℕ → Type 0
Rejoins text = (text ≡ ended 10 (lines_in text)) × AllFree 10 (lines_in text)

rejoins_more : (text l more : List ℕ) → text ≡ l ++ (10 ∷ more) → Free 10 l → Rejoins more → Rejoins text
rejoins_more text l more w f r =
    let ls : lines_in text ≡ l ∷ lines_in more = ap lines_in w ∙ lines_cut l more f in (
      w ∙ (ap (λ (m : List ℕ). l ++ (10 ∷ m)) r.0 ∙ ap (ended 10) (sym ls)),
      subst (AllFree 10) (sym ls) (f, r.1),
    )

lines-back : (n : ℕ) (text : List ℕ) → length text ≤ n → line_ended text ≡ true → Rejoins text
lines-back zero text h e = absurd (omega (arith, (ended-parts text e).0))
lines-back (suc n) text h e = go (lines-back n) (cut_or_free 10 text)
  where
    rest : ((m : List ℕ) → length m ≤ n → line_ended m ≡ true → Rejoins m)
        → (more : List ℕ) → length more ≤ n → (more ≡ []) ⊎ (line_ended more ≡ true) → Rejoins more
    rest rec more k (inl z) = subst Rejoins (sym z) (refl, tt)
    rest rec more k (inr q) = rec more k q

    go : ((m : List ℕ) → length m ≤ n → line_ended m ≡ true → Rejoins m) → Free 10 text ⊎ FirstAt 10 text → Rejoins text
    go rec (inl f) = absurd (ended_not_free text e f)
    go rec (inr c) =
        rejoins_more text c.before c.after c.whole c.first
        (rest rec c.after (omega (arith, simp length-append at (ap length c.whole)))
        (ended-rest c.before c.after (sym (ap line_ended c.whole) ∙ e)))

-- a text that ends in a newline is its lines, each ended by a newline
pub lines-rejoined : (text : List ℕ) → line_ended text ≡ true → text ≡ ended 10 (lines_in text)
lines-rejoined text h = (lines-back (length text) text (omega arith) h).0

-- ---- the last byte, as a test

-- ---- what a text is read as, question by question

module _ (text : List ℕ) (short : length text ≤ 32768) where
  pub text-lines : line_ended text ≡ true → read_text text ≡ read_all (lines_in text)
  text-lines h =
      cond-true (leb (length text) 32768) _ _ (le-leb (length text) 32768 short) ∙ cond-true (line_ended text) _ _ h

module _ (l : List ℕ) (ls : List (List ℕ)) where
  -- the first line
  abbrev after_head : Result (KindLetter × List ℕ) LineFault → Result Drawn TextFault
  after_head r = then (at_line 1 r) (λ h. as_drawn h.0 (draft_after_lines (kind_of h.0) 2 (fresh h.1) ls))

  pub all_head-fault : (x : LineFault) → head_of_line l ≡ Err x → read_all (l ∷ ls) ≡ Err (Line 1 x)
  all_head-fault x e = ap after_head e

  pub all_head : (k : KindLetter) (signs : List ℕ) → head_of_line l ≡ Ok (k, signs) → read_all (l ∷ ls) ≡ as_drawn k (draft_after_lines (kind_of k) 2 (fresh signs) ls)
  all_head k signs e = ap after_head e

-- one line more
module _ (K : KindModel) (n : ℕ) (d : DraftModel) (l : List ℕ) (ls : List (List ℕ)) where
  abbrev after_line : Result DraftModel LineFault → Result DraftModel TextFault
  after_line r = then (at_line n r) (λ e. draft_after_lines K (suc n) e ls)

  pub lines_step : (e : DraftModel) → draft_after_line K d l ≡ Ok e → draft_after_lines K n d (l ∷ ls) ≡ draft_after_lines K (suc n) e ls
  lines_step e h = ap after_line h
