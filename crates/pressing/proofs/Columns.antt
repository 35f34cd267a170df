-- What iterators find of the chart and of the states of a draft.
use Rattle.std.proofs.Common.{◌≡◌, ℕ, ◌<◌, ◌≤◌, Bool, List, length, take, Some, None, Option, sym, subst, arith}
use Rattle.std.specs.Bool.{Decides}
use Rattle.std.specs.List.{slice_index_or}
use Rattle.std.specs.Option.{MatchOption}
use Rattle.std.proofs.lemmas.List.{get_or-take, length-take-le}
use Rattle.kinds.specs.Kinds.{KindModel}
use Rattle.views.specs.declared.colouring.Colouring.{Colouring}
use Rattle.views.specs.Colourings.{plain}
use Rattle.pressing.specs.Verdicts.{SameColumn, AloneTo, FirstPair, FirstTold}

-- the codes of a colouring in two places are equal
abbrev pub Same : KindModel → ℕ → ℕ → Colouring → Type 0
Same K low high c = slice_index_or c.codes low K.none ≡ slice_index_or c.codes high K.none

-- two columns are equal exactly if the codes of each row in use are
pub columns_decide : (K : KindModel) (es : List Colouring) (len : ℕ) → len ≤ length es → (low high : ℕ) (b : Bool)
    → Decides b ((k : ℕ) → k < length (take len es) → Same K low high (slice_index_or (take len es) k (plain 0)))
    → Decides b (SameColumn K es len low high)
columns_decide K es len within low high b h =
    let long = length-take-le len es within in (
      λ e r l. subst (Same K low high) (get_or-take len es r (plain 0) l) (h.0 e r (omega arith)),
      λ same. h.1 (λ k l. let m : k < len = omega arith in subst (Same K low high) (sym (get_or-take len es k (plain 0) m)) (same k m)),
    )

-- the first state that is told is the first that a search finds
pub told_of : (K : KindModel) (cols : List Colouring) (n : ℕ) (rows : List Colouring) (m k : ℕ) (r : Option ℕ)
    → MatchOption r ((q : ℕ) → 0 ≤ q → q < k → AloneTo K cols n rows m q n)
    (λ q. (0 ≤ q) × (q < k) × ((i : ℕ) × (j : ℕ) × FirstPair K cols n rows m q i j) × ((p : ℕ) → 0 ≤ p → p < q → AloneTo K cols n rows m p n))
    → FirstTold K cols n rows m k r
told_of K cols n rows m k None h = λ q l. h q (omega arith) l
told_of K cols n rows m k (Some q) h = (h.1, h.2, λ p l. h.3 p (omega arith) l)
