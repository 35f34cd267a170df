use Rattle.std.proofs.Common.{◌≡◌, ℕ, length, IfOk, vec_items, sym, ◌∙◌, subst}
use Rattle.drafts.specs.Drawn.{drawn}
use Rattle.reports.specs.Reports.{DraftPrints}
use Rattle.reports.proofs.Adding.{made_none}
use Rattle.reports.proofs.pressed.press_text.Goals as goal

pub returns-in_err-chart : goal.returns-in_err-chart
returns-in_err-chart g c = made_none _ c.from_residual-in_err-chart.result c.from_residual-in_err-chart.ensures.0

pub returns-in_err-sets : goal.returns-in_err-sets
returns-in_err-sets g c = made_none _ c.from_residual-in_err-sets.result c.from_residual-in_err-sets.ensures.0

pub press_in-requires : goal.press_in-requires
press_in-requires g c = record {
  columns = c.as_mut_slice.ensures.len ∙ (c.in_ok-columns.ensures.len ∙ sym (c.as_mut_slice-3.ensures.len ∙ c.in_ok-sets.ensures.len));
  chart = c.as_mut_slice-2.ensures.len ∙ (c.in_ok-chart.ensures.len ∙ sym (c.as_mut_slice-3.ensures.len ∙ c.in_ok-sets.ensures.len));
}

pub returns : goal.returns
returns g c =
    let sets : length c.as_mut_slice-3.result.now ≡ 128 = c.as_mut_slice-3.ensures.len ∙ c.in_ok-sets.ensures.len in
    subst (λ (n : ℕ). IfOk c.press_in.result (λ v. DraftPrints g.K.Kind.model c.args.letter (drawn c.args.draft.now) n (vec_items v))) sets c.press_in.ensures
