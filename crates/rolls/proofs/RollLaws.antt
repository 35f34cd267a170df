-- What a user of a roll knows after placing an entry.
use Rattle.std.proofs.Common.{◌≡◌, ℕ, ◌+◌, ◌<◌, ◌≤◌, false, List, length, get_or, set, is_ok, Ok, Err, Result, sym, refl, ap, ◌∙◌, subst, ⊎_elim, arith}
use Rattle.std.proofs.lemmas.List.{length-set}
use Rattle.rolls.specs.Rolls.{Different, Absent, Found, Added, Placed}
use Rattle.rolls.specs.declared.roll.Roll.{Roll}
use Rattle.rolls.specs.Loans.{KeepsLoan}
use Rattle.rolls.proofs.Differing.{different_added, different_numbers}

-- a loan that is kept twice is kept
pub keeps_on : {S : Type 0} {first then last : Roll S} → KeepsLoan first then → KeepsLoan then last → KeepsLoan first last
keeps_on k l = record { loan = l.loan ∙ k.loan; long = l.long ∙ k.long }

-- es, n: the entries before and how many are in use; es', n': after; whatever was answered
module _ {S E : Type 0} (x d : S) (es : List S) (n : ℕ) (es' : List S) (n' : ℕ) where
  -- the list keeps its length
  pub placed-long : (r : Result ℕ E) → Placed x d es n es' n' r → length es' ≡ length es
  placed-long (Ok i) w = ⊎_elim
      (λ (f : Found x d es n es' n' i). ap length f.kept)
      (λ (f : Added x d es n es' n' i). ap length f.grown ∙ length-set es n x)
      w
  placed-long (Err e) f = ap length f.kept

  -- at most one entry more is in use
  pub placed-more : (r : Result ℕ E) → Placed x d es n es' n' r → (n ≤ n') × (n' ≤ n + 1)
  placed-more (Ok i) w = ⊎_elim
      (λ (f : Found x d es n es' n' i). (omega arith, omega arith))
      (λ (f : Added x d es n es' n' i). (omega arith, omega arith))
      w
  placed-more (Err e) f = (omega arith, omega arith)

  -- the entries in use stay different
  pub placed_different : (r : Result ℕ E) → Placed x d es n es' n' r → Different es n → Different es' n'
  placed_different (Ok i) w old = ⊎_elim
      (λ (f : Found x d es n es' n' i).
      subst (λ (l : List S). Different l n') (sym f.kept) (subst (λ (k : ℕ). Different es k) (sym f.long) old))
      (λ (f : Added x d es n es' n' i).
      subst (λ (l : List S). Different l n') (sym f.grown)
      (subst (λ (k : ℕ). Different (set es n x) k) (sym f.long) (different_added x d es n f.room f.absent old)))
      w
  placed_different (Err e) f old =
      subst (λ (l : List S). Different l n') (sym f.kept) (subst (λ (k : ℕ). Different es k) (sym f.long) old)

  -- an entry that is there already is answered by its number, and nothing changes
  pub placed-again : (r : Result ℕ E) (k : ℕ) → Different es n → k < n → get_or es k d ≡ x → Placed x d es n es' n' r → (r ≡ Ok k) × (es' ≡ es) × (n' ≡ n)
  placed-again (Ok i) k old h e w = ⊎_elim
      (λ (f : Found x d es n es' n' i).
      let same : i ≡ k = different_numbers d es n i k old f.below h (f.there ∙ sym e) in (cc, f.kept, f.long))
      (λ (f : Added x d es n es' n' i). absurd (f.absent k h e))
      w
  placed-again (Err u) k old h e f = absurd (f.absent k h e)

  -- a new entry is added where an entry is free
  pub placed_new : (r : Result ℕ E) → Absent x d es n → n < length es → Placed x d es n es' n' r → (r ≡ Ok n) × (es' ≡ set es n x) × (n' ≡ n + 1)
  placed_new (Ok i) none room w = ⊎_elim
      (λ (f : Found x d es n es' n' i). absurd (none i f.below f.there))
      (λ (f : Added x d es n es' n' i). (cc, f.grown, f.long))
      w
  placed_new (Err e) none room f = absurd (omega arith)

  -- a new entry is refused where no entry is free, and nothing changes
  pub placed-refused : (r : Result ℕ E) → Absent x d es n → n ≡ length es → Placed x d es n es' n' r → (is_ok r ≡ false) × (es' ≡ es) × (n' ≡ n)
  placed-refused (Ok i) none full w = ⊎_elim
      (λ (f : Found x d es n es' n' i). absurd (none i f.below f.there))
      (λ (f : Added x d es n es' n' i). absurd (omega arith))
      w
  placed-refused (Err e) none full f = (refl, f.kept, f.long)

  -- a refusal: the entry is absent still, and every entry is in use
  pub placed-full : (e : E) → Placed x d es n es' n' (Err e) → Absent x d es' n' × (n' ≡ length es')
  placed-full e f =
      (λ k h p. f.absent k (omega arith) (ap (λ l. get_or l k d) (sym f.kept) ∙ p), f.long ∙ f.full ∙ ap length (sym f.kept))
