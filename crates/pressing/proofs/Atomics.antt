-- What a verdict says of a state.
use Rattle.std.proofs.Common.{◌≡◌, ℕ, ◌<◌, Some, None, Option, sym, ap, inl, inr, arith}
use mathlib.Core.HLevel.{dec→stable}
use native.Mathlib.Decide.{ℕ_discrete}
use Rattle.std.proofs.lemmas.Bool.{cases_order}
use Rattle.kinds.specs.Kinds.{KindModel}
use Rattle.automata.specs.Signs.{sign_fault}
use Rattle.automata.specs.Drafts.{DraftModel, size}
use Rattle.views.specs.declared.colouring.Colouring.{Colouring}
use Rattle.pressing.specs.declared.judging.Verdict.{Verdict}
use Rattle.pressing.specs.declared.judging.Verdict.TheVariants.{Atomic, Told}
use Rattle.pressing.specs.Pressed.{Left, DraftPressed}
use Rattle.pressing.specs.Sources.{Made}
use Rattle.pressing.specs.Press.{code_of_entry}
use Rattle.pressing.specs.Law.{AgreedLeft}
use Rattle.pressing.specs.Verdicts.{AloneTo, FirstPair, Judged, Means, FirstTold, FirstNotAtomic}
use Rattle.pressing.proofs.Pressing.{pressed-atomic}

module _ (K : KindModel) (back last : Left Colouring) (q : ℕ) where
  -- where no pair tells against q, backward states with equal columns agree at it
  pub alone_agreed : AloneTo K back.entries back.len last.entries last.len q back.len → AgreedLeft K back last q
  alone_agreed alone i j l k same =
      dec→stable (ℕ_discrete (code_of_entry K back.entries i q) (code_of_entry K back.entries j q))
      (λ ne. elim (cases_order i j) [
        | inl e ↦ ne (ap (λ x. code_of_entry K back.entries x q) e)
        | inr o ↦ elim o [
          | inl h ↦ alone i l j h k (same, ne)
          | inr h ↦ alone j k i h l ((λ r s. sym (same r s)), λ e. ne (sym e))
        ]
      ])

  pub pair_against : (i j : ℕ) → FirstPair K back.entries back.len last.entries last.len q i j → AgreedLeft K back last q → ⊥
  pair_against i j p agreed = p.tells.1 (agreed i j (omega (arith, p.order, p.within)) p.within p.tells.0)

module _ (K : KindModel) (d : DraftModel) (ok : sign_fault d.signs ≡ None) (back last : Left Colouring) (p : DraftPressed K d ok back last) where
  pub verdict_means : (q : ℕ) → q < size d → (v : Verdict) → Judged K back.entries back.len last.entries last.len q v → Means K d q v
  verdict_means q l Atomic h = λ made. (pressed-atomic K d ok made back last p q l).1 (alone_agreed K back last q h)
  verdict_means q l (Told i j) h = λ made a. pair_against K back last q i j h ((pressed-atomic K d ok made back last p q l).0 a)

  pub told-means : Made K d → (o : Option ℕ) → FirstTold K back.entries back.len last.entries last.len (size d) o → FirstNotAtomic K d o
  told-means made None h = λ q l. (pressed-atomic K d ok made back last p q l).1 (alone_agreed K back last q (h q l))
  told-means made (Some q) h = (
    h.0,
    (λ a. pair_against K back last q h.1.0 h.1.1 h.1.2 ((pressed-atomic K d ok made back last p q h.0).0 a)),
    λ k l. (pressed-atomic K d ok made back last p k (omega (arith, h.0))).1 (alone_agreed K back last k (h.2 k l)),
  )
