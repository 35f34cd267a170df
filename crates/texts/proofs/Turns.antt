-- Lines in turn: one line on, and the end.
use Rattle.std.proofs.Common.{◌≡◌, ℕ, suc, ◌+◌, true, ◌⊎◌, List, [], ◌∷◌, length, Ok, Err, Result, sym, ap, ◌∙◌, inl, inr, arith, length-append, Bor}
use Rattle.kinds.specs.Kinds.{KindModel}
use Rattle.fields.specs.Pieces.{CutAt}
use Rattle.automata.specs.Drafts.{DraftModel}
use Rattle.texts.specs.declared.faults.LineFault.{LineFault}
use Rattle.texts.specs.declared.faults.TextFault.{TextFault}
use Rattle.texts.specs.declared.faults.TextFault.TheVariants.{Line}
use Rattle.texts.specs.Reading.{then, at_line, draft_after_line, draft_after_lines, lines_in, line_ended}
use Rattle.texts.proofs.Texts.{FirstLine, first_line}

-- nothing is left, or what is left ends in a newline
abbrev pub Left : List ℕ → Type 0
Left xs = (xs ≡ []) ⊎ (line_ended xs ≡ true)

pub left_cut : {text l more : Bor (List ℕ)} → CutAt 10 text l more → Left text.now → FirstLine text.now l.now more.now
left_cut {text} {l} {more} h (inl e) = absurd (let k = ap length (sym h.whole ∙ e) in omega (arith, simp length-append at k))
left_cut {text} {l} {more} h (inr e) = first_line text.now l.now more.now h.whole h.first e

module _ (K : KindModel) (n : ℕ) (d : DraftModel) where
  pub turn_fault : (xs l : List ℕ) (ls : List (List ℕ)) (x : LineFault) (all : Result DraftModel TextFault)
      → lines_in xs ≡ l ∷ ls → draft_after_line K d l ≡ Err x → draft_after_lines K n d (lines_in xs) ≡ all → all ≡ Err (Line n x)
  turn_fault xs l ls x all cut h inv =
      sym inv ∙ (ap (draft_after_lines K n d) cut ∙ ap (λ (r : Result DraftModel LineFault). then (at_line n r) (λ e. draft_after_lines K (suc n) e ls)) h)

  pub turn_done : (xs l : List ℕ) (ls : List (List ℕ)) (e : DraftModel) (all : Result DraftModel TextFault)
      → lines_in xs ≡ l ∷ ls → draft_after_line K d l ≡ Ok e → draft_after_lines K n d (lines_in xs) ≡ all → draft_after_lines K (n + 1) e ls ≡ all
  turn_done xs l ls e all cut h inv =
      ap (λ (m : ℕ). draft_after_lines K m e ls) (omega arith)
      ∙ (sym (ap (draft_after_lines K n d) cut ∙ ap (λ (r : Result DraftModel LineFault). then (at_line n r) (λ e. draft_after_lines K (suc n) e ls)) h) ∙ inv)
