-- Texts put one after another are one text put.
use Rattle.std.proofs.Common.{◌≡◌, ℕ, ◌+◌, ◌-◌, ◌<◌, ◌≤◌, min, List, [], ◌++◌, length, take, drop, sym, refl, ap, ap₂, ◌∙◌, ⊎_elim, append_assoc, append-nil, zero-add, arith, length-append, length-drop}
use lib.Seq.{paste}
use Rattle.std.proofs.lemmas.List.{nil_from_length, take_at, take_all, take-append-le, take-append-drop, length-take, drop_all}
use Rattle.std.proofs.lemmas.Bool.{cases_lt}
use Rattle.std.proofs.lemmas.List.Edits.{paste_none, paste-paste, paste_all, length-paste}
use Rattle.fields.specs.declared.writing.Writer.{Writer}
use Rattle.fields.specs.Writing.{capped, Puts, PutsCut}

-- s at a place, and then t behind it
joined : (d e : List ℕ) (at m : ℕ) (s t : List ℕ) → at ≤ length d → e ≡ paste d at s (length s) → m ≡ at + length s
    → paste e m t (length t) ≡ paste d at (s ++ t) (length (s ++ t))
joined d e at m s t h one here =
    ap (λ (k : ℕ). paste e k t (length t)) here
    ∙ (ap (λ (x : List ℕ). paste x (at + length s) t (length t)) one
    ∙ (paste-paste d at s t (length s) (length t) refl refl h ∙ ap (λ (k : ℕ). paste d at (s ++ t) k) (sym (length-append s t))))

-- the empty text
pub puts_none : (w : Writer) → Puts w w []
puts_none w = record { loan = refl; place = omega (arith, w.within); fits = λ _. paste_none w.out.now w.len []; size = refl }

-- a text, and then another behind it
pub puts_then : {a b c : Writer} {s t : List ℕ} → Puts a b s → Puts b c t → Puts a c (s ++ t)
puts_then {a} {b} {c} {s} {t} p q = record {
  loan = q.loan ∙ p.loan;
  place = simp length-append (omega (arith, p.place, q.place));
  fits = λ h. together (omega (arith, simp length-append at h));
  size = q.size ∙ p.size;
}
  where
    together : a.len + (length s + length t) ≤ length a.out.now → c.out.now ≡ paste a.out.now a.len (s ++ t) (length (s ++ t))
    together h =
        let here : b.len ≡ a.len + length s = omega (arith, p.place, a.short) in
        q.fits (omega (arith, p.size)) ∙ joined a.out.now b.out.now a.len b.len s t (omega arith) (p.fits (omega arith)) here

-- over an empty slice a text is only measured
pub puts_measured : {a c : Writer} {t : List ℕ} → Puts a c t → a.out.now ≡ [] → (c.out.now ≡ []) × (c.len ≡ capped (a.len + length t))
puts_measured {a} {c} p e = (nil_from_length c.out.now (p.size ∙ ap length e), p.place)

-- a place within the slice is the true place: the text had room
pub puts_within : {a c : Writer} {t : List ℕ} → Puts a c t → c.len ≤ length a.out.now → c.len ≡ a.len + length t
puts_within {a} p h = omega (arith, p.place, a.short)

-- from the start, where there is room: the text, and what stood behind it
pub puts_whole : {a c : Writer} {t : List ℕ} → Puts a c t → a.len ≡ 0 → length t ≤ length a.out.now → c.out.now ≡ t ++ drop (length t) a.out.now
puts_whole {a} {c} {t} p e h =
    p.fits (omega arith)
    ∙ (ap (λ (k : ℕ). paste a.out.now k t (length t)) e
    ∙ (paste_all a.out.now 0 t (length t) refl ∙ ap (λ (k : ℕ). t ++ drop k a.out.now) (zero-add (length t))))

-- the front of the slice is then the text
pub puts_front : {a c : Writer} {t : List ℕ} → Puts a c t → a.len ≡ 0 → c.len ≤ length a.out.now → take c.len c.out.now ≡ t
puts_front {a} {c} {t} p e h =
    let n : length t ≡ c.len = omega (arith, puts_within p h) in
    ap (take c.len) (puts_whole p e (omega arith)) ∙ take_at t (drop (length t) a.out.now) c.len n

-- ---- texts cut at the end of the slice

module _ (d : List ℕ) (at : ℕ) where
  -- what is cut has no fewer bytes than the slice
  long : (t : List ℕ) → length d ≤ length (paste d at t (length t))
  long t = simp (length-append, length-take, length-drop) (omega arith)

  -- where all of it fits, nothing is cut
  whole : (t : List ℕ) → at + length t ≤ length d → take (length d) (paste d at t (length t)) ≡ paste d at t (length t)
  whole t h =
      let n = length-paste d at t (length t) h (omega arith) in
      take_all (length d) (paste d at t (length t)) (omega arith)

  -- from a place past the end on, nothing is written
  past : (t : List ℕ) → length d ≤ at → take (length d) (paste d at t (length t)) ≡ d
  past t h =
      ap (take (length d)) (paste_all d at t (length t) refl ∙ ap (λ (p : List ℕ). p ++ (t ++ drop (at + length t) d)) (take_all at d h))
      ∙ take_at d (t ++ drop (at + length t) d) (length d) refl

  -- where s leaves no room, nothing of t is written behind it
  full : (s t : List ℕ) → length d ≤ at + length s → take (length d) (paste d at (s ++ t) (length (s ++ t))) ≡ take (length d) (take at d ++ s)
  full s t h =
      let enough : length d ≤ length (take at d ++ s) = simp (length-append, length-take) (omega arith) in
      ap (take (length d)) (paste_all d at (s ++ t) (length (s ++ t)) refl ∙ simp append_assoc refl)
      ∙ take-append-le (length d) (take at d ++ s) (t ++ drop (at + length (s ++ t)) d) enough

  alone : (s t : List ℕ) → length d ≤ at + length s
      → take (length d) (paste d at (s ++ t) (length (s ++ t))) ≡ take (length d) (paste d at s (length s))
  alone s t h =
      full s t h ∙ sym (ap (λ (x : List ℕ). take (length d) (paste d at x (length x))) (sym (append-nil s)) ∙ full s [] h)

  -- as many bytes of t as there is room for
  part : (t : List ℕ) (n : ℕ) → at ≤ length d → n ≡ min (length t) (length d - at) → paste d at (take n t) n ≡ take (length d) (paste d at t (length t))
  part t n h e = ⊎_elim short fits (cases_lt (length d - at) (length t))
    where
      fits : length t ≤ length d - at → paste d at (take n t) n ≡ take (length d) (paste d at t (length t))
      fits l =
          let k : n ≡ length t = omega arith in
          ap₂ (λ (x : List ℕ) (m : ℕ). paste d at x m) (take_all n t (omega arith)) k ∙ sym (whole t (omega arith))

      short : length d - at < length t → paste d at (take n t) n ≡ take (length d) (paste d at t (length t))
      short l =
          let k : length (take n t) ≡ n = simp length-take (omega arith) in
          let there = take_all (length d) (take at d ++ take n t) (simp (length-append, length-take) (omega arith)) in
          let cut = ap (λ (x : List ℕ). take (length d) (paste d at x (length x))) (sym (take-append-drop n t)) ∙ (full (take n t) (drop n t) (omega arith) ∙ there) in
          paste_all d at (take n t) n (sym k)
          ∙ (ap (λ (x : List ℕ). take at d ++ (take n t ++ x)) (drop_all (at + n) d (omega arith)) ∙ (ap (λ (x : List ℕ). take at d ++ x) (append-nil (take n t)) ∙ sym cut))

pub cut_size : {a b : Writer} {t : List ℕ} → PutsCut a b t → length b.out.now ≡ length a.out.now
cut_size {a} {b} {t} p =
    let n = long a.out.now a.len t in
    ap length p.bytes ∙ simp length-take (omega arith)

-- where there is room, it is put whole
pub puts_of_cut : {a b : Writer} {t : List ℕ} → PutsCut a b t → Puts a b t
puts_of_cut {a} {b} {t} p = record { loan = p.loan; place = p.place; fits = λ h. p.bytes ∙ whole a.out.now a.len t h; size = cut_size p }

-- the part of t that there is room for, put whole
pub cut_part : {a b : Writer} (t : List ℕ) (n : ℕ) → n ≡ min (length t) (length a.out.now - a.len) → Puts a b (take n t)
    → (length a.out.now < a.len + length (take n t) → b.out.now ≡ a.out.now)
    → b.out.now ≡ take (length a.out.now) (paste a.out.now a.len t (length t))
cut_part {a} {b} t n e p kept = ⊎_elim none some (cases_lt (length a.out.now) a.len)
  where
    k : length (take n t) ≡ n
    k = simp length-take (omega arith)

    none : length a.out.now < a.len → b.out.now ≡ take (length a.out.now) (paste a.out.now a.len t (length t))
    none l = kept (omega arith) ∙ sym (past a.out.now a.len t (omega arith))

    some : a.len ≤ length a.out.now → b.out.now ≡ take (length a.out.now) (paste a.out.now a.len t (length t))
    some l = p.fits (omega (arith, k)) ∙ (ap (λ (m : ℕ). paste a.out.now a.len (take n t) m) k ∙ part a.out.now a.len t n l e)

-- t put whole, where there is room for all of it or for none
pub cut_whole : {a b : Writer} (t : List ℕ) → Puts a b t → (length a.out.now < a.len + length t → b.out.now ≡ a.out.now)
    → (length a.out.now < a.len + length t → length a.out.now ≤ a.len) → PutsCut a b t
cut_whole {a} {b} t p kept none = record {
  loan = p.loan;
  place = p.place;
  bytes = ⊎_elim (λ l. kept l ∙ sym (past a.out.now a.len t (none l))) (λ g. p.fits g ∙ sym (whole a.out.now a.len t g)) (cases_lt (length a.out.now) (a.len + length t));
}

pub cut_none : (w : Writer) → PutsCut w w []
cut_none w = record {
  loan = refl;
  place = omega (arith, w.within);
  bytes = sym (take_all (length w.out.now) w.out.now (omega arith)) ∙ ap (take (length w.out.now)) (paste_none w.out.now w.len []);
}

pub cut_then : {a b c : Writer} {s t : List ℕ} → PutsCut a b s → PutsCut b c t → PutsCut a c (s ++ t)
cut_then {a} {b} {c} {s} {t} p q = record {
  loan = q.loan ∙ p.loan;
  place = simp length-append (omega (arith, p.place, q.place));
  bytes = ⊎_elim more none (cases_lt (a.len + length s) (length a.out.now));
}
  where
    size : length b.out.now ≡ length a.out.now
    size = cut_size p

    more : a.len + length s < length a.out.now → c.out.now ≡ take (length a.out.now) (paste a.out.now a.len (s ++ t) (length (s ++ t)))
    more l =
        let here : b.len ≡ a.len + length s = omega (arith, p.place, a.short) in
        let one = p.bytes ∙ whole a.out.now a.len s (omega arith) in
        q.bytes
        ∙ (ap (λ (k : ℕ). take k (paste b.out.now b.len t (length t))) size
        ∙ ap (take (length a.out.now)) (joined a.out.now b.out.now a.len b.len s t (omega arith) one here))

    none : length a.out.now ≤ a.len + length s → c.out.now ≡ take (length a.out.now) (paste a.out.now a.len (s ++ t) (length (s ++ t)))
    none l =
        let far : length b.out.now ≤ b.len = omega (arith, size, p.place, a.short) in
        q.bytes ∙ (past b.out.now b.len t far ∙ (p.bytes ∙ sym (alone a.out.now a.len s t l)))
