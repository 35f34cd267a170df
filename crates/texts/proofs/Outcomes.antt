-- What an outcome tells of the refusal behind it.
use Rattle.std.proofs.Common.{◌≡◌, ℕ, Some, None, Ok, Err, Option, Result, sym, refl, ap, arith}
use Rattle.drafts.specs.Calls.{unless}
use Rattle.std.specs.Result.{MatchResult}

pub refused_by_lem : {T E : Type 0} (o : Option E) (x : T) (e : E) → unless o x ≡ Err e → o ≡ Some e
refused_by_lem None x e h = absurd (let z : ◌≡◌ {A = ℕ} 0 1 = cc in omega arith)
refused_by_lem (Some f) x e h = cc

pub not-refused : {T E : Type 0} (o : Option E) (x y : T) → unless o x ≡ Ok y → o ≡ None
not-refused None x y h = refl
not-refused (Some f) x y h = absurd (let z : ◌≡◌ {A = ℕ} 0 1 = cc in omega arith)

-- a fault that was given its place, taken apart; R says of the fault what x is
pub placed-fault : {T P E : Type 0} {R : E → Type 0} (p : P) (r : Result T E) (x : P × E) → MatchResult r (λ y. ◌≡◌ {A = Result T (P × E)} (Err x) (Ok y)) R
    → ((e : E) → R e → x ≡ (p, e)) → (x.0 ≡ p) × (r ≡ Err x.1)
placed-fault p (Ok y) x h told = absurd (let z : ◌≡◌ {A = ℕ} 0 1 = cc in omega arith)
placed-fault {T} {P} {E} p (Err e) x h told = let k = told e h in (ap (λ (y : P × E). y.0) k, ap (λ (y : P × E). Err y.1) (sym k))

pub placed-value : {T E : Type 0} (F : Type 0) {R : E → Type 0} (r : Result T E) (x : T) → MatchResult r (λ y. ◌≡◌ {A = Result T F} (Ok x) (Ok y)) R → ((e : E) → R e → ⊥) → r ≡ Ok x
placed-value F (Ok y) x h none = cc
placed-value F (Err e) x h none = absurd (none e h)
