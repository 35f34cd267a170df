use Rattle.std.proofs.Common.{ℕ, [], ◌∷◌, decimal, ap, ◌∙◌}
use Rattle.automata.specs.Shown.{sign_bytes}
use Rattle.fields.proofs.Placed.{cut_then}
use Rattle.texts.proofs.LinesPut.{puts_as}
use Rattle.reports.proofs.Adding.{head_text}
use Rattle.reports.proofs.table_text.put_head.Goals as goal

pub returns : goal.returns
returns c =
    let letter = puts_as (ap (λ (b : ℕ). 84 ∷ 9 ∷ b ∷ 9 ∷ []) c.byte.ensures) c.put_cut.ensures in
    let signs = puts_as (c.as_slice.ensures ∙ ap sign_bytes c.signs.ensures) c.put_cut-2.ensures in
    let count = puts_as (ap (λ (n : ℕ). 9 ∷ decimal n) c.state_count.ensures) c.put.ensures in
    puts_as (head_text _ _ _) (cut_then letter (cut_then signs (cut_then count c.put_cut-3.ensures)))
