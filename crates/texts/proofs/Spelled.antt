-- A line is read as a call, or as a kind and signs, just where it spells them.
use Rattle.std.proofs.Common.{◌≡◌, ℕ, ◌<◌, Bool, true, false, eqb, ltb, ◌⊎◌, List, [], ◌∷◌, ◌++◌, length, get_or, Some, None, Ok, Err, decimal, Option, Result, sym, refl, ap, ◌∙◌, subst, inl, inr, append-nil, arith}
use Rattle.std.proofs.lemmas.Bool.{eqb-true, ltb-true, and_parts, cases_Bool, cases_eq, cond_both}
use Rattle.fields.specs.declared.numbers.NumberFault.{NumberFault}
use Rattle.fields.specs.Pieces.{pieces, behind, join_with, Free, AllFree}
use Rattle.fields.specs.Numbers.{number_of}
use Rattle.fields.proofs.Separated.{rejoined, free_nil, free_cons, free-append}
use Rattle.fields.proofs.Numerals.{number-reads, number-decimal, decimal_free_tab, decimal_free_newline}
use Rattle.automata.specs.declared.faults.SignFault.{SignFault}
use Rattle.drafts.specs.declared.calls.Call.{Call}
use Rattle.drafts.specs.declared.calls.Call.TheVariants.{Grow, Link, Unlink, Enter, Leave, Rate}
use Rattle.drafts.specs.Calls.{link}
use Rattle.automata.specs.Signs.{sign_fault}
use Rattle.texts.specs.declared.letters.KindLetter.{KindLetter}
use Rattle.texts.specs.declared.letters.KindLetter.TheVariants.{Y, R, M}
use Rattle.texts.specs.declared.faults.LineFault.TheVariants as line
use Rattle.texts.specs.Grammar.{letter_byte, line_of, head_fields, call_fields, HasLine}
use Rattle.texts.specs.Reading.{number, one_sign, call_forms, letter_in, number_in, kind_byte, kind_in, tagged, refused_by, call_of_line, head_of_line, listed}
use Rattle.texts.proofs.Places.{place-holds, place_of_sign, sign_visible, signs-free}
use Rattle.texts.proofs.Lines.{tagged-shape, two_fields, three_fields_lem, number_in_lem, listed-one, call_of, call_read, numbered, number-field, link_read, call_letter_other, call_fields_lem, call_untagged, fields_record, fields_count, grow_ok, enter_ok, link_ok, head_read, kind_read, head_fields_lem, head_fields_record, head_fields-count, head_untagged, head_ok}

-- a fault is no answer
pub fault_not_ok : {T E : Type 0} (e : E) (x : T) → ◌≡◌ {A = Result T E} (Err e) (Ok x) → ⊥
fault_not_ok e x h = let z : ◌≡◌ {A = ℕ} 0 1 = cc in omega arith

-- ---- what is spelled is read

module _ (signs : List ℕ) (ok : sign_fault signs ≡ None) where
  -- a sign, as a field
  sign-free : (b a : ℕ) → b < 33 → a < length signs → Free b (get_or signs a 0 ∷ [])
  sign-free b a h l = free_cons b (get_or signs a 0) [] (λ e. omega (arith, sign_visible signs ok a l)) (free_nil b)

  link_reads : (p a q : ℕ) → HasLine signs (link p a q) → call_of_line signs (line_of (call_fields signs (link p a q))) ≡ Ok (link p a q)
  link_reads p a q h =
      let place = place_of_sign signs ok a h.1 in
      link_ok signs (decimal p ++ (9 ∷ get_or signs a 0 ∷ 9 ∷ (decimal q ++ []))) (decimal p) (get_or signs a 0 ∷ []) (decimal q)
      (three_fields_lem _ (decimal p) _ (get_or signs a 0 ∷ []) (decimal q) refl
      (ap (λ (f : List ℕ). get_or signs a 0 ∷ 9 ∷ f) (append-nil (decimal q)))
      (decimal_free_tab p (omega (arith, h.0))) (sign-free 9 a (omega arith) h.1) (decimal_free_tab q (omega (arith, h.2))))
      p (number-decimal p h.0) q (listed-one signs (get_or signs a 0) (omega (arith, h.1))) (number-decimal q h.2)
      ∙ ap (λ (k : ℕ). Ok (link p k q)) place

  pub call_reads : (c : Call) → HasLine signs c → call_of_line signs (line_of (call_fields signs c)) ≡ Ok c
  call_reads (Grow v) h =
      ap (λ (f : List ℕ). call_of_line signs (83 ∷ 9 ∷ f)) (append-nil (decimal v))
      ∙ grow_ok signs (decimal v) v (decimal_free_tab v (omega arith)) (number-decimal v h)
  call_reads (Enter p) h =
      ap (λ (f : List ℕ). call_of_line signs (69 ∷ 9 ∷ f)) (append-nil (decimal p))
      ∙ enter_ok signs (decimal p) p (decimal_free_tab p (omega arith)) (number-decimal p h)
  call_reads (Link r) h = link_reads r.from r.letter r.to h
  call_reads (Unlink r) h = absurd h
  call_reads (Leave p) h = absurd h
  call_reads (Rate p v) h = absurd h

kind_letter_lem : (k : KindLetter) → kind_in (letter_byte k ∷ []) ≡ Some k
kind_letter_lem Y = refl
kind_letter_lem R = refl
kind_letter_lem M = refl

letter-free : (k : KindLetter) (b : ℕ) → b < 33 → Free b (letter_byte k ∷ [])
letter-free k b h = free_cons b (letter_byte k) [] (go k) (free_nil b)
  where
    go : (k : KindLetter) → letter_byte k ≡ b → ⊥
    go Y e = omega arith
    go R e = omega arith
    go M e = omega arith

pub head_reads : (k : KindLetter) (signs : List ℕ) → sign_fault signs ≡ None → head_of_line (line_of (head_fields k signs)) ≡ Ok (k, signs)
head_reads k signs ok =
    head_ok (letter_byte k ∷ 9 ∷ (signs ++ [])) (letter_byte k ∷ []) signs
    (two_fields _ (letter_byte k ∷ []) signs (ap (λ (f : List ℕ). letter_byte k ∷ 9 ∷ f) (append-nil signs))
    (letter-free k 9 (omega arith)) (signs-free signs ok 9 (omega arith)))
    k (kind_letter_lem k) ok

-- ---- what is read is spelled

-- the line spells the call
abbrev pub SpellsCall : List ℕ → List ℕ → Call → Type 0
SpellsCall signs l c = HasLine signs c × (l ≡ line_of (call_fields signs c))

numbered_ok : (make : ℕ → Call) (r : Result ℕ NumberFault) (c : Call) → numbered make r ≡ Ok c → (n : ℕ) × (r ≡ Ok n) × (c ≡ make n)
numbered_ok make (Ok n) c h = (n, refl, cc)
numbered_ok make (Err e) c h = absurd (fault_not_ok _ c h)

-- the one number of a line that is read as a call
one-read : (make : ℕ → Call) (f : List ℕ) (c : Call) → numbered make (number_of f) ≡ Ok c → (n : ℕ) × (n < 256) × (f ≡ decimal n) × (c ≡ make n)
one-read make f c h =
    let p = numbered_ok make (number_of f) c h in
    let r = (number-reads f p.0).0 p.1 in
    (p.0, r.0, r.1, p.2)

linked_ok : (r : Result ℕ NumberFault) (b : Bool) (s : Result ℕ NumberFault) (c x : Call) → link_read r b s c ≡ Ok x
    → (p : ℕ) × (q : ℕ) × (r ≡ Ok p) × (b ≡ true) × (s ≡ Ok q) × (x ≡ c)
linked_ok (Ok p) true (Ok q) c x h = (p, q, refl, refl, refl, cc)
linked_ok (Ok p) true (Err e) c x h = absurd (fault_not_ok _ x h)
linked_ok (Ok p) false (Ok q) c x h = absurd (fault_not_ok _ x h)
linked_ok (Ok p) false (Err e) c x h = absurd (fault_not_ok _ x h)
linked_ok (Err e) true (Ok q) c x h = absurd (fault_not_ok _ x h)
linked_ok (Err e) true (Err f) c x h = absurd (fault_not_ok _ x h)
linked_ok (Err e) false (Ok q) c x h = absurd (fault_not_ok _ x h)
linked_ok (Err e) false (Err f) c x h = absurd (fault_not_ok _ x h)

single : (g : List ℕ) → length g ≡ 1 → g ≡ get_or g 0 0 ∷ []
single [] h = absurd (omega arith)
single (x ∷ []) h = refl
single (x ∷ y ∷ g) h = absurd (omega arith)

-- a listed sign is the sign of its letter
listed_sign : (signs g : List ℕ) → listed signs g ≡ true → (letter_in signs g < length signs) × (g ≡ get_or signs (letter_in signs g) 0 ∷ [])
listed_sign signs g h =
    let p = and_parts (eqb (length g) 1) (ltb (letter_in signs g) (length signs)) h in
    let l = ltb-true (letter_in signs g) (length signs) p.1 in
    (l, single g (eqb-true (length g) 1 p.0) ∙ ap (λ (b : ℕ). b ∷ []) (sym (place-holds (get_or g 0 0) signs l)))

module _ (signs : List ℕ) where
  -- a line of one number
  module _ (t : ℕ) (make : ℕ → Call) (forms : call_forms t ≡ Some (number ∷ [])) (one : (f : List ℕ) → call_of signs t (f ∷ []) ≡ make (number_in f))
      (spells : (n : ℕ) → n < 256 → SpellsCall signs (t ∷ 9 ∷ (decimal n ++ [])) (make n)) where
    number_spelled : (fs : List (List ℕ)) (c : Call) → call_read signs t fs ≡ Ok c → SpellsCall signs (t ∷ 9 ∷ join_with 9 fs) c
    number_spelled [] c h = absurd (fault_not_ok _ c (sym (fields_count signs t (number ∷ []) [] forms (λ e. omega arith)) ∙ h))
    number_spelled (f ∷ []) c h =
        let p = one-read make f c (sym (number-field signs t make forms one f) ∙ h) in
        subst (SpellsCall signs (t ∷ 9 ∷ (f ++ []))) (sym p.3)
        (subst (λ (g : List ℕ). SpellsCall signs (t ∷ 9 ∷ (g ++ [])) (make p.0)) (sym p.2) (spells p.0 p.1))
    number_spelled (f ∷ g ∷ fs) c h =
        absurd (fault_not_ok _ c (sym (fields_count signs t (number ∷ []) (f ∷ g ∷ fs) forms (λ e. omega arith)) ∙ h))

  -- the line of three fields
  abbrev link_line : List ℕ → List ℕ → List ℕ → List ℕ
  link_line f g h = 76 ∷ 9 ∷ (f ++ (9 ∷ (g ++ (9 ∷ (h ++ [])))))

  link-spelled : (fs : List (List ℕ)) (c : Call) → call_read signs 76 fs ≡ Ok c → SpellsCall signs (76 ∷ 9 ∷ join_with 9 fs) c
  link-spelled [] c h = absurd (fault_not_ok _ c h)
  link-spelled (f ∷ []) c h = absurd (fault_not_ok _ c h)
  link-spelled (f ∷ g ∷ []) c h = absurd (fault_not_ok _ c h)
  link-spelled (f ∷ g ∷ k ∷ []) c h =
      let o = linked_ok (number_of f) (listed signs g) (number_of k) (link (number_in f) (letter_in signs g) (number_in k)) c h in
      let p = (number-reads f o.0).0 o.2 in
      let q = (number-reads k o.1).0 o.4 in
      let s = listed_sign signs g o.3 in
      let is : c ≡ link o.0 (letter_in signs g) o.1 =
      o.5
      ∙ (ap (λ (n : ℕ). link n (letter_in signs g) (number_in k)) (number_in_lem f o.0 o.2)
      ∙ ap (λ (n : ℕ). link o.0 (letter_in signs g) n) (number_in_lem k o.1 o.4)) in
      subst (SpellsCall signs (link_line f g k)) (sym is) (
        (p.0, s.0, q.0),
        ap (λ (x : List ℕ). link_line x g k) p.1
            ∙ (ap (λ (x : List ℕ). link_line (decimal o.0) x k) s.1
            ∙ ap (λ (x : List ℕ). link_line (decimal o.0) (get_or signs (letter_in signs g) 0 ∷ []) x) q.1),
      )
  link-spelled (f ∷ g ∷ k ∷ m ∷ fs) c h =
      absurd (fault_not_ok _ c (sym (fields_count signs 76 (number ∷ one_sign ∷ number ∷ []) (f ∷ g ∷ k ∷ m ∷ fs) refl (λ e. omega arith)) ∙ h))

  fields-spelled : (t : ℕ) (fs : List (List ℕ)) (c : Call) → call_read signs t fs ≡ Ok c → SpellsCall signs (t ∷ 9 ∷ join_with 9 fs) c
  fields-spelled t fs c h = go (cases_eq t 83) (cases_eq t 69) (cases_eq t 76)
    where
      at : (b : ℕ) → t ≡ b → (call_read signs b fs ≡ Ok c → SpellsCall signs (b ∷ 9 ∷ join_with 9 fs) c) → SpellsCall signs (t ∷ 9 ∷ join_with 9 fs) c
      at b e s = subst (λ (u : ℕ). SpellsCall signs (u ∷ 9 ∷ join_with 9 fs) c) (sym e) (s (subst (λ (u : ℕ). call_read signs u fs ≡ Ok c) e h))

      go : (t ≡ 83) ⊎ (t ≡ 83 → ⊥) → (t ≡ 69) ⊎ (t ≡ 69 → ⊥) → (t ≡ 76) ⊎ (t ≡ 76 → ⊥) → SpellsCall signs (t ∷ 9 ∷ join_with 9 fs) c
      go (inl e) x y = at 83 e (number_spelled 83 Grow refl (λ f. refl) (λ v small. (small, refl)) fs c)
      go (inr n) (inl e) y = at 69 e (number_spelled 69 Enter refl (λ f. refl) (λ p small. (small, refl)) fs c)
      go (inr n) (inr m) (inl e) = at 76 e (link-spelled fs c)
      go (inr n) (inr m) (inr k) = absurd (fault_not_ok _ c (sym (fields_record signs t fs (call_letter_other t n m k)) ∙ h))

  pub call_spelled : (l : List ℕ) (c : Call) → call_of_line signs l ≡ Ok c → SpellsCall signs l c
  call_spelled l c h = go (cases_Bool (tagged l))
    where
      go : (tagged l ≡ true) ⊎ (tagged l ≡ false) → SpellsCall signs l c
      go (inl y) =
          let s = tagged-shape l y in
          let w : l ≡ s.0 ∷ 9 ∷ join_with 9 (pieces 9 s.1) = s.2 ∙ ap (λ (r : List ℕ). s.0 ∷ 9 ∷ r) (sym (rejoined 9 s.1)) in
          subst (λ (m : List ℕ). SpellsCall signs m c) (sym w)
          (fields-spelled s.0 (pieces 9 s.1) c (sym (call_fields_lem signs s.0 s.1) ∙ (sym (ap (call_of_line signs) s.2) ∙ h)))
      go (inr n) = absurd (fault_not_ok _ c (sym (call_untagged signs l n) ∙ h))

-- the line spells the kind and the signs, which are acceptable
abbrev pub SpellsHead : List ℕ → KindLetter → List ℕ → Type 0
SpellsHead l k signs = (sign_fault signs ≡ None) × (l ≡ line_of (head_fields k signs))

-- the byte writes the letter where that is what it reads as
abbrev Writes : ℕ → KindLetter → Option KindLetter → Type 0
Writes b k o = o ≡ Some k → b ≡ letter_byte k

kind_byte_lem : (b : ℕ) (k : KindLetter) → kind_byte b ≡ Some k → b ≡ letter_byte k
kind_byte_lem b k =
    cond_both (eqb b 89) _ _ (Writes b k) (λ e h. eqb-true b 89 e ∙ ap letter_byte (same Y h))
    (λ _. cond_both (eqb b 82) _ _ (Writes b k) (λ e h. eqb-true b 82 e ∙ ap letter_byte (same R h))
    (λ _. cond_both (eqb b 77) _ _ (Writes b k) (λ e h. eqb-true b 77 e ∙ ap letter_byte (same M h)) (λ _ h. absurd (none h))))
  where
    same : (j : KindLetter) → Some j ≡ Some k → j ≡ k
    same j h = cc

    none : None ≡ Some k → ⊥
    none h = let z : ◌≡◌ {A = ℕ} 0 1 = cc in omega arith

kind-spelled : (f : List ℕ) (k : KindLetter) → kind_in f ≡ Some k → f ≡ letter_byte k ∷ []
kind-spelled f k = cond_both (eqb (length f) 1) _ _ (λ o. o ≡ Some k → f ≡ letter_byte k ∷ []) one none
  where
    one : eqb (length f) 1 ≡ true → kind_byte (get_or f 0 0) ≡ Some k → f ≡ letter_byte k ∷ []
    one e h = single f (eqb-true (length f) 1 e) ∙ ap (λ (b : ℕ). b ∷ []) (kind_byte_lem (get_or f 0 0) k h)

    none : eqb (length f) 1 ≡ false → None ≡ Some k → f ≡ letter_byte k ∷ []
    none e h = let z : ◌≡◌ {A = ℕ} 0 1 = cc in absurd (omega arith)

opened_ok : (o : Option SignFault) (p x : KindLetter × List ℕ) → refused_by line.Open o p ≡ Ok x → (o ≡ None) × (p ≡ x)
opened_ok None p x h = (refl, cc)
opened_ok (Some e) p x h = absurd (fault_not_ok _ x h)

kind_read_ok : (o : Option KindLetter) (s : List ℕ) (x : KindLetter × List ℕ) → kind_read o s ≡ Ok x
    → (k : KindLetter) × (o ≡ Some k) × (sign_fault s ≡ None) × ((k, s) ≡ x)
kind_read_ok None s x h = absurd (fault_not_ok _ x h)
kind_read_ok (Some k) s x h = let p = opened_ok (sign_fault s) (k, s) x h in (k, refl, p.0, p.1)

head_two_spelled : (fs : List (List ℕ)) (k : KindLetter) (s : List ℕ) → head_read 68 fs ≡ Ok (k, s) → SpellsHead (68 ∷ 9 ∷ join_with 9 fs) k s
head_two_spelled [] k s h = absurd (fault_not_ok _ (k, s) h)
head_two_spelled (f ∷ []) k s h = absurd (fault_not_ok _ (k, s) h)
head_two_spelled (f ∷ g ∷ []) k s h =
    let p = kind_read_ok (kind_in f) g (k, s) h in
    subst (λ (x : KindLetter × List ℕ). SpellsHead (68 ∷ 9 ∷ (f ++ (9 ∷ (g ++ [])))) x.0 x.1) p.3
    (p.2, ap (λ (x : List ℕ). 68 ∷ 9 ∷ (x ++ (9 ∷ (g ++ [])))) (kind-spelled f p.0 p.1))
head_two_spelled (f ∷ g ∷ m ∷ fs) k s h =
    absurd (fault_not_ok _ (k, s) (sym (head_fields-count (f ∷ g ∷ m ∷ fs) (λ e. omega arith)) ∙ h))

head_fields-spelled : (t : ℕ) (fs : List (List ℕ)) (k : KindLetter) (s : List ℕ) → head_read t fs ≡ Ok (k, s) → SpellsHead (t ∷ 9 ∷ join_with 9 fs) k s
head_fields-spelled t fs k s h = go (cases_eq t 68)
  where
    go : (t ≡ 68) ⊎ (t ≡ 68 → ⊥) → SpellsHead (t ∷ 9 ∷ join_with 9 fs) k s
    go (inl e) =
        subst (λ (u : ℕ). SpellsHead (u ∷ 9 ∷ join_with 9 fs) k s) (sym e)
        (head_two_spelled fs k s (subst (λ (u : ℕ). head_read u fs ≡ Ok (k, s)) e h))
    go (inr n) = absurd (fault_not_ok _ (k, s) (sym (head_fields_record t fs n) ∙ h))

pub head_spelled : (l : List ℕ) (k : KindLetter) (s : List ℕ) → head_of_line l ≡ Ok (k, s) → SpellsHead l k s
head_spelled l k s h = go (cases_Bool (tagged l))
  where
    go : (tagged l ≡ true) ⊎ (tagged l ≡ false) → SpellsHead l k s
    go (inl y) =
        let p = tagged-shape l y in
        let w : l ≡ p.0 ∷ 9 ∷ join_with 9 (pieces 9 p.1) = p.2 ∙ ap (λ (r : List ℕ). p.0 ∷ 9 ∷ r) (sym (rejoined 9 p.1)) in
        subst (λ (m : List ℕ). SpellsHead m k s) (sym w)
        (head_fields-spelled p.0 (pieces 9 p.1) k s (sym (head_fields_lem p.0 p.1) ∙ (sym (ap head_of_line p.2) ∙ h)))
    go (inr n) = absurd (fault_not_ok _ (k, s) (sym (head_untagged l n) ∙ h))

-- ---- no newline stands in a line

free-behind : (b c : ℕ) → (c ≡ b → ⊥) → (ps : List (List ℕ)) → AllFree b ps → Free b (behind c ps)
free-behind b c n [] f = free_nil b
free-behind b c n (p ∷ ps) f = free_cons b c (p ++ behind c ps) n (free-append b p (behind c ps) f.0 (free-behind b c n ps f.1))

-- a byte that stands in no piece and is not the separator does not stand in the pieces joined
pub free_joined : (b c : ℕ) → (c ≡ b → ⊥) → (ps : List (List ℕ)) → AllFree b ps → Free b (join_with c ps)
free_joined b c n [] f = free_nil b
free_joined b c n (p ∷ ps) f = free-append b p (behind c ps) f.0 (free-behind b c n ps f.1)

free_one : (b x : ℕ) → (x ≡ b → ⊥) → Free b (x ∷ [])
free_one b x n = free_cons b x [] n (free_nil b)

module _ (signs : List ℕ) (ok : sign_fault signs ≡ None) where
  fields_free : (c : Call) → HasLine signs c → AllFree 10 (call_fields signs c)
  fields_free (Grow v) h = (free_one 10 83 (λ e. omega arith), (decimal_free_newline v (omega arith), tt))
  fields_free (Enter p) h = (free_one 10 69 (λ e. omega arith), (decimal_free_newline p (omega arith), tt))
  fields_free (Link r) h =
      let from = decimal_free_newline r.from (omega (arith, h.0)) in
      let to = decimal_free_newline r.to (omega (arith, h.2)) in
      (free_one 10 76 (λ e. omega arith), (from, (sign-free signs ok 10 r.letter (omega arith) h.1, (to, tt))))
  fields_free (Unlink r) h = absurd h
  fields_free (Leave p) h = absurd h
  fields_free (Rate p v) h = absurd h

  pub call_line_free : (c : Call) → HasLine signs c → Free 10 (line_of (call_fields signs c))
  call_line_free c h = free_joined 10 9 (λ e. omega arith) (call_fields signs c) (fields_free c h)

  pub head_line_free : (k : KindLetter) → Free 10 (line_of (head_fields k signs))
  head_line_free k =
      free_joined 10 9 (λ e. omega arith) (head_fields k signs)
      (free_one 10 68 (λ e. omega arith), (letter-free k 10 (omega arith), (signs-free signs ok 10 (omega arith), tt)))
