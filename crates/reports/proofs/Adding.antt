-- Texts put piece by piece.
use Rattle.std.proofs.Common.{◌≡◌, ℕ, ◌+◌, true, List, [], ◌∷◌, ◌++◌, is_err, IfOk, Ok, Err, Result, sym, refl, ap, ◌∙◌, append_assoc, append-nil}
use Rattle.std.proofs.lemmas.Bool.{both_ways}
use Rattle.fields.specs.Pieces.{behind, ended}
use Rattle.fields.specs.Writing.{PutsCut}
use Rattle.fields.specs.declared.writing.Writer.{Writer}
use Rattle.fields.proofs.Placed.{cut_then}
use Rattle.drafts.specs.Words.{tabulate}
use Rattle.drafts.proofs.Tabulates.{tabulate-more}
use Rattle.texts.specs.Writing.{ended_line}
use Rattle.texts.proofs.LinesPut.{ended-append, puts_as}

behind-append : (b : ℕ) (ps qs : List (List ℕ)) → behind b (ps ++ qs) ≡ behind b ps ++ behind b qs
behind-append b [] qs = refl
behind-append b (p ∷ ps) qs = ap (λ (t : List ℕ). b ∷ (p ++ t)) (behind-append b ps qs) ∙ ap (λ (t : List ℕ). b ∷ t) (sym (append_assoc p (behind b ps) (behind b qs)))

-- one field more
pub puts_field : {u v w : Writer} (b n : ℕ) (f : ℕ → List ℕ) → PutsCut u v (behind b (tabulate n f)) → PutsCut v w (b ∷ f n) → PutsCut u w (behind b (tabulate (n + 1) f))
puts_field b n f p q =
    puts_as (sym (ap (behind b) (tabulate-more n f) ∙ (behind-append b (tabulate n f) (f n ∷ []) ∙ ap (λ (t : List ℕ). behind b (tabulate n f) ++ (b ∷ t)) (append-nil (f n)))))
    (cut_then p q)

-- one line more
pub puts_line : {u v w : Writer} (b n : ℕ) (f : ℕ → List ℕ) → PutsCut u v (ended b (tabulate n f)) → PutsCut v w (f n ++ b ∷ []) → PutsCut u w (ended b (tabulate (n + 1) f))
puts_line b n f p q = puts_as (sym (ap (ended b) (tabulate-more n f) ∙ ended-append b (tabulate n f) (f n ∷ []))) (cut_then p q)

pub head_text : (letter : ℕ) (signs number : List ℕ)
    → (84 ∷ 9 ∷ letter ∷ 9 ∷ []) ++ (signs ++ ((9 ∷ number) ++ 10 ∷ [])) ≡ ended_line ((84 ∷ []) ∷ (letter ∷ []) ∷ signs ∷ number ∷ [])
head_text letter signs number = simp (append-nil, append_assoc) refl

pub row_text : (state value : List ℕ) (cells : List (List ℕ)) → state ++ ((9 ∷ value) ++ (behind 9 cells ++ 10 ∷ [])) ≡ ended_line (state ∷ value ∷ cells)
row_text state value cells = simp append_assoc refl

-- what holds of a thing that was made
pub made-map : {X Y : Type 0} (P Q : X → Type 0) (r : Result X Y) → ((x : X) → P x → Q x) → IfOk r P → IfOk r Q
made-map P Q (Ok x) f h = f x h
made-map P Q (Err e) f h = tt

pub made_none : {X Y : Type 0} (P : X → Type 0) (r : Result X Y) → is_err r ≡ true → IfOk r P
made_none P (Ok x) e = absurd (both_ways _ refl e)
made_none P (Err y) e = tt
