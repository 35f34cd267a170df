-- What a line is read as, by its record letter and its fields.
use Rattle.std.proofs.Common.{◌≡◌, ℕ, suc, ◌<◌, Bool, true, false, cond, eqb, ltb, List, [], ◌∷◌, ◌++◌, length, get_or, Some, None, Ok, Err, Option, Result, refl, ap, ◌∙◌, arith}
use Rattle.std.proofs.lemmas.Bool.{ne_eqb, ltb-true, lt-ltb, eqb-true, and_parts, and_from, cond-false}
use Rattle.kinds.specs.Kinds.{KindModel}
use Rattle.fields.specs.declared.numbers.NumberFault.{NumberFault}
use Rattle.fields.specs.Pieces.{pieces, Free}
use Rattle.fields.specs.Numbers.{number_of}
use Rattle.fields.proofs.Separated.{pieces-one, pieces_cut, pieces-some}
use Rattle.fields.proofs.Numerals.{number-reads, digits}
use Rattle.std.proofs.lemmas.Fmt.{digits_value-decimal}
use Rattle.automata.specs.declared.faults.SignFault.{SignFault}
use Rattle.drafts.specs.declared.faults.CallFault.{CallFault}
use Rattle.drafts.specs.declared.calls.Call.{Call}
use Rattle.drafts.specs.declared.calls.Call.TheVariants.{Grow, Enter}
use Rattle.automata.specs.Signs.{sign_fault}
use Rattle.automata.specs.Drafts.{DraftModel}
use Rattle.drafts.specs.Calls.{link, unless, refusal, effect}
use Rattle.texts.specs.declared.letters.KindLetter.{KindLetter}
use Rattle.texts.specs.declared.faults.FieldFault.TheVariants.{Number, NotListed}
use Rattle.texts.specs.declared.faults.LineFault.{LineFault}
use Rattle.texts.specs.declared.faults.LineFault.TheVariants as line
use Rattle.texts.specs.Reading.{Form, number, head_forms, call_forms, letter_in, listed, number_in, kind_in, fault_in, as_field, unlisted, or_else, at_field, first_fault, tagged, tag_of, fields_in, shape_fault, line_fault, call_in, call_of_line, then, refused_by, draft_after_line, kind_or, head_of_line}

-- ---- the record letter and the tab

pub tab_tagged : (t : ℕ) (rest : List ℕ) → tagged (t ∷ 9 ∷ rest) ≡ true
tab_tagged t rest = and_from (ltb 1 (length (t ∷ 9 ∷ rest))) true (lt-ltb 1 (length (t ∷ 9 ∷ rest)) (omega arith)) refl

-- a tagged line is a byte, a tab and the rest
pub tagged-shape : (l : List ℕ) → tagged l ≡ true → (t : ℕ) × (rest : List ℕ) × (l ≡ t ∷ 9 ∷ rest)
tagged-shape [] h = absurd (omega (arith, ltb-true 1 0 (and_parts (ltb 1 0) (eqb 0 9) h).0))
tagged-shape (t ∷ []) h = absurd (omega (arith, ltb-true 1 1 (and_parts (ltb 1 1) (eqb 0 9) h).0))
tagged-shape (t ∷ x ∷ rest) h =
    (t, rest, ap (λ (y : ℕ). t ∷ y ∷ rest) (eqb-true x 9 (and_parts (ltb 1 (length (t ∷ x ∷ rest))) (eqb x 9) h).1))

module _ (signs : List ℕ) (forms : ℕ → Option (List Form)) where
  pub line_untagged : (l : List ℕ) → tagged l ≡ false → line_fault signs forms l ≡ Some line.Record
  line_untagged l h = ap (λ (b : Bool). shape_fault signs (cond b (forms (tag_of l)) None) (fields_in l)) h

  pub line_tagged : (t : ℕ) (rest : List ℕ) → line_fault signs forms (t ∷ 9 ∷ rest) ≡ shape_fault signs (forms t) (pieces 9 rest)
  line_tagged t rest = ap (λ (b : Bool). shape_fault signs (cond b (forms t) None) (pieces 9 rest)) (tab_tagged t rest)

-- ---- how many fields the rest of a line has

pub two_fields : (rest f g : List ℕ) → rest ≡ f ++ (9 ∷ g) → Free 9 f → Free 9 g → pieces 9 rest ≡ f ∷ g ∷ []
two_fields rest f g e ff fg = ap (pieces 9) e ∙ (pieces_cut 9 f g ff ∙ ap (λ (ps : List (List ℕ)). f ∷ ps) (pieces-one 9 g fg))

pub three_fields_lem : (rest f more g h : List ℕ) → rest ≡ f ++ (9 ∷ more) → more ≡ g ++ (9 ∷ h) → Free 9 f → Free 9 g → Free 9 h
    → pieces 9 rest ≡ f ∷ g ∷ h ∷ []
three_fields_lem rest f more g h e q ff fg fh =
    ap (pieces 9) e ∙ (pieces_cut 9 f more ff ∙ ap (λ (ps : List (List ℕ)). f ∷ ps) (two_fields more g h q fg fh))

-- one field in front of the others
pub field-count : (rest f more : List ℕ) → rest ≡ f ++ (9 ∷ more) → Free 9 f → length (pieces 9 rest) ≡ suc (length (pieces 9 more))
field-count rest f more e ff = ap length (ap (pieces 9) e ∙ pieces_cut 9 f more ff)

pub over-one : (rest f more : List ℕ) → rest ≡ f ++ (9 ∷ more) → Free 9 f → 1 < length (pieces 9 rest)
over-one rest f more e ff = omega (arith, field-count rest f more e ff, pieces-some 9 more)

-- ---- single fields

-- the number of a field that is one
pub number_in_lem : (f : List ℕ) (n : ℕ) → number_of f ≡ Ok n → number_in f ≡ n
number_in_lem f n e = let r = (number-reads f n).0 e in ap number_in r.1 ∙ digits_value-decimal digits n (omega (arith, r.0))

pub listed-one : (signs : List ℕ) (b : ℕ) → letter_in signs (b ∷ []) < length signs → listed signs (b ∷ []) ≡ true
listed-one signs b h = lt-ltb (letter_in signs (b ∷ [])) (length signs) h

-- ---- lines of calls

-- no call's record letter
pub call_letter_other : (t : ℕ) → (t ≡ 83 → ⊥) → (t ≡ 69 → ⊥) → (t ≡ 76 → ⊥) → call_forms t ≡ None
call_letter_other t s e l = rw (ne_eqb t 83 s, ne_eqb t 69 e, ne_eqb t 76 l)

-- the call of a record letter and fields
abbrev pub call_of : List ℕ → ℕ → List (List ℕ) → Call
call_of signs t fs =
    cond (eqb t 83) (Grow (number_in (get_or fs 0 [])))
    (cond (eqb t 69) (Enter (number_in (get_or fs 0 [])))
    (link (number_in (get_or fs 0 [])) (letter_in signs (get_or fs 1 [])) (number_in (get_or fs 2 []))))

abbrev pub call_read : List ℕ → ℕ → List (List ℕ) → Result Call LineFault
call_read signs t fs = unless (shape_fault signs (call_forms t) fs) (call_of signs t fs)

-- a number in the second field of a line
abbrev pub numbered : {T : Type 0} → (ℕ → T) → Result ℕ NumberFault → Result T LineFault
numbered make (Ok n) = Ok (make n)
numbered make (Err e) = Err (line.Field 2 (Number e))

-- one number behind the record letter
pub one_number : {T : Type 0} (make : ℕ → T) (f : List ℕ)
    → unless (or_else (at_field 2 (as_field (fault_in (number_of f)))) None) (make (number_in f)) ≡ numbered make (number_of f)
one_number make f = go (number_of f) refl
  where
    go : (r : Result ℕ NumberFault) → number_of f ≡ r
        → unless (or_else (at_field 2 (as_field (fault_in r))) None) (make (number_in f)) ≡ numbered make r
    go (Ok n) e = ap (λ (k : ℕ). Ok (make k)) (number_in_lem f n e)
    go (Err x) e = refl

-- a number, a sign and a number, one after another, and the call that they make
abbrev pub link_read : Result ℕ NumberFault → Bool → Result ℕ NumberFault → Call → Result Call LineFault
link_read r b s c =
    unless (or_else (at_field 2 (as_field (fault_in r)))
    (or_else (at_field 3 (cond b None (Some NotListed)))
    (or_else (at_field 4 (as_field (fault_in s))) None))) c

module _ (signs : List ℕ) where
  pub call_fields_lem : (t : ℕ) (rest : List ℕ) → call_of_line signs (t ∷ 9 ∷ rest) ≡ call_read signs t (pieces 9 rest)
  call_fields_lem t rest = ap (λ (o : Option LineFault). unless o (call_of signs t (pieces 9 rest))) (line_tagged signs call_forms t rest)

  pub call_untagged : (l : List ℕ) → tagged l ≡ false → call_of_line signs l ≡ Err line.Record
  call_untagged l h = ap (λ (o : Option LineFault). unless o (call_in signs l)) (line_untagged signs call_forms l h)

  pub fields_record : (t : ℕ) (fs : List (List ℕ)) → call_forms t ≡ None → call_read signs t fs ≡ Err line.Record
  fields_record t fs h = ap (λ (o : Option (List Form)). unless (shape_fault signs o fs) (call_of signs t fs)) h

  pub fields_count : (t : ℕ) (forms : List Form) (fs : List (List ℕ)) → call_forms t ≡ Some forms → (length fs ≡ length forms → ⊥)
      → call_read signs t fs ≡ Err line.FieldCount
  fields_count t forms fs h n =
      ap (λ (o : Option (List Form)). unless (shape_fault signs o fs) (call_of signs t fs)) h
      ∙ ap (λ (o : Option LineFault). unless o (call_of signs t fs))
      (cond-false (eqb (length fs) (length forms)) (first_fault signs 2 forms fs) (Some line.FieldCount) (ne_eqb (length fs) (length forms) n))

  -- the line of a record letter with these fields
  pub call_by_fields : (t : ℕ) (rest : List ℕ) (fs : List (List ℕ)) → pieces 9 rest ≡ fs → call_of_line signs (t ∷ 9 ∷ rest) ≡ call_read signs t fs
  call_by_fields t rest fs e = call_fields_lem t rest ∙ ap (call_read signs t) e

  -- a record letter and one number
  module _ (t : ℕ) (make : ℕ → Call) (forms : call_forms t ≡ Some (number ∷ [])) (one : (f : List ℕ) → call_of signs t (f ∷ []) ≡ make (number_in f)) where
    pub number-field : (f : List ℕ) → call_read signs t (f ∷ []) ≡ numbered make (number_of f)
    number-field f =
        ap (λ (o : Option (List Form)). unless (shape_fault signs o (f ∷ [])) (call_of signs t (f ∷ []))) forms
        ∙ (ap (unless (or_else (at_field 2 (as_field (fault_in (number_of f)))) None)) (one f) ∙ one_number make f)

    pub number_line : (rest : List ℕ) → Free 9 rest → call_of_line signs (t ∷ 9 ∷ rest) ≡ numbered make (number_of rest)
    number_line rest f = call_by_fields t rest (rest ∷ []) (pieces-one 9 rest f) ∙ number-field rest

  -- S and a value
  pub grow_line : (rest : List ℕ) → Free 9 rest → call_of_line signs (83 ∷ 9 ∷ rest) ≡ numbered Grow (number_of rest)
  grow_line = number_line 83 Grow refl (λ f. refl)

  pub grow_ok : (rest : List ℕ) (n : ℕ) → Free 9 rest → number_of rest ≡ Ok n → call_of_line signs (83 ∷ 9 ∷ rest) ≡ Ok (Grow n)
  grow_ok rest n f e = grow_line rest f ∙ ap (numbered Grow) e

  -- E and a state
  pub enter_line : (rest : List ℕ) → Free 9 rest → call_of_line signs (69 ∷ 9 ∷ rest) ≡ numbered Enter (number_of rest)
  enter_line = number_line 69 Enter refl (λ f. refl)

  pub enter_ok : (rest : List ℕ) (n : ℕ) → Free 9 rest → number_of rest ≡ Ok n → call_of_line signs (69 ∷ 9 ∷ rest) ≡ Ok (Enter n)
  enter_ok rest n f e = enter_line rest f ∙ ap (numbered Enter) e

  module _ (rest f g h : List ℕ) (three : pieces 9 rest ≡ f ∷ g ∷ h ∷ []) where
    -- the three fields, and the call that they make
    abbrev link_as : Result ℕ NumberFault → Bool → Result ℕ NumberFault → Result Call LineFault
    link_as r b s = link_read r b s (link (number_in f) (letter_in signs g) (number_in h))

    link-line : call_of_line signs (76 ∷ 9 ∷ rest) ≡ link_as (number_of f) (listed signs g) (number_of h)
    link-line = call_by_fields 76 rest (f ∷ g ∷ h ∷ []) three

    module _ (p : ℕ) (from : number_of f ≡ Ok p) where
      link-rest : call_of_line signs (76 ∷ 9 ∷ rest) ≡ link_as (Ok p) (listed signs g) (number_of h)
      link-rest = link-line ∙ ap (λ (r : Result ℕ NumberFault). link_as r (listed signs g) (number_of h)) from

      link-last : listed signs g ≡ true → call_of_line signs (76 ∷ 9 ∷ rest) ≡ link_as (Ok p) true (number_of h)
      link-last e = link-rest ∙ ap (λ (b : Bool). link_as (Ok p) b (number_of h)) e

      pub link_ok : (q : ℕ) → listed signs g ≡ true → number_of h ≡ Ok q → call_of_line signs (76 ∷ 9 ∷ rest) ≡ Ok (link p (letter_in signs g) q)
      link_ok q e n =
          link-last e
          ∙ (ap (link_as (Ok p) true) n
          ∙ (ap (λ (k : ℕ). Ok (link k (letter_in signs g) (number_in h))) (number_in_lem f p from)
          ∙ ap (λ (k : ℕ). Ok (link p (letter_in signs g) k)) (number_in_lem h q n)))

-- ---- a line on a draft

module _ (K : KindModel) (d : DraftModel) (l : List ℕ) where
  line-call : (c : Call) → call_of_line d.signs l ≡ Ok c → draft_after_line K d l ≡ refused_by line.Call (refusal K d c) (effect d c)
  line-call c e = ap (λ (r : Result Call LineFault). then r (λ c. refused_by line.Call (refusal K d c) (effect d c))) e

  pub line_refused : (c : Call) (x : CallFault) → call_of_line d.signs l ≡ Ok c → refusal K d c ≡ Some x → draft_after_line K d l ≡ Err (line.Call x)
  line_refused c x e h = line-call c e ∙ ap (λ (o : Option CallFault). refused_by line.Call o (effect d c)) h

  pub line_accepted : (c : Call) → call_of_line d.signs l ≡ Ok c → refusal K d c ≡ None → draft_after_line K d l ≡ Ok (effect d c)
  line_accepted c e h = line-call c e ∙ ap (λ (o : Option CallFault). refused_by line.Call o (effect d c)) h

-- ---- the first line

pub head_letter_other : (t : ℕ) → (t ≡ 68 → ⊥) → head_forms t ≡ None
head_letter_other t h = rw (ne_eqb t 68 h)

-- a fault of the line, or kind and signs
abbrev pub opened : Option LineFault → KindLetter × List ℕ → Result (KindLetter × List ℕ) LineFault
opened o p = then (unless o p) (λ h. refused_by line.Open (sign_fault h.1) h)

-- kind and signs by the fields
abbrev pub head_pair : List (List ℕ) → KindLetter × List ℕ
head_pair fs = (kind_or (kind_in (get_or fs 0 [])), get_or fs 1 [])

pub head_untagged : (l : List ℕ) → tagged l ≡ false → head_of_line l ≡ Err line.Record
head_untagged l h = ap (λ (o : Option LineFault). opened o (head_pair (fields_in l))) (line_untagged [] head_forms l h)

-- the first line by its record letter and its fields
abbrev pub head_read : ℕ → List (List ℕ) → Result (KindLetter × List ℕ) LineFault
head_read t fs = opened (shape_fault [] (head_forms t) fs) (head_pair fs)

pub head_fields_lem : (t : ℕ) (rest : List ℕ) → head_of_line (t ∷ 9 ∷ rest) ≡ head_read t (pieces 9 rest)
head_fields_lem t rest = ap (λ (o : Option LineFault). opened o (head_pair (pieces 9 rest))) (line_tagged [] head_forms t rest)

pub head_fields_record : (t : ℕ) (fs : List (List ℕ)) → (t ≡ 68 → ⊥) → head_read t fs ≡ Err line.Record
head_fields_record t fs h = ap (λ (o : Option (List Form)). opened (shape_fault [] o fs) (head_pair fs)) (head_letter_other t h)

pub head_fields-count : (fs : List (List ℕ)) → (length fs ≡ 2 → ⊥) → head_read 68 fs ≡ Err line.FieldCount
head_fields-count fs n =
    ap (λ (o : Option LineFault). opened o (head_pair fs))
    (cond-false (eqb (length fs) 2) _ (Some line.FieldCount) (ne_eqb (length fs) 2 n))

-- a kind field, and signs
abbrev pub kind_read : Option KindLetter → List ℕ → Result (KindLetter × List ℕ) LineFault
kind_read o s = opened (or_else (at_field 2 (unlisted o)) None) (kind_or o, s)

module _ (rest f s : List ℕ) (two : pieces 9 rest ≡ f ∷ s ∷ []) where
  head-line : head_of_line (68 ∷ 9 ∷ rest) ≡ kind_read (kind_in f) s
  head-line = head_fields_lem 68 rest ∙ ap (head_read 68) two

  pub head_ok : (k : KindLetter) → kind_in f ≡ Some k → sign_fault s ≡ None → head_of_line (68 ∷ 9 ∷ rest) ≡ Ok (k, s)
  head_ok k e h =
      head-line ∙ (ap (λ (o : Option KindLetter). kind_read o s) e ∙ ap (λ (o : Option SignFault). refused_by line.Open o (k, s)) h)
