use Rattle.std.proofs.Common.{◌≡◌, ℕ, length, Ok, Err, vec_items, ap, ◌∙◌, subst}
use lib.ListN.{length-replicate}
use Rattle.automata.specs.declared.automaton.Automaton.{Automaton}
use Rattle.automata.specs.Drafts.{size}
use Rattle.automata.specs.Shown as automata
use Rattle.automata.specs.Shown.{sign_bytes}
use Rattle.drafts.specs.Drawn.{drawn}
use Rattle.machines.specs.Tables.{count}
use Rattle.tables.specs.declared.grid.Grid.{Grid}
use Rattle.tables.specs.Shown.{shown}
use Rattle.tables.proofs.GridLaws.{shown-count}
use Rattle.texts.specs.Faults.{told}
use Rattle.texts.specs.Writing.{refusal_line}
use Rattle.views.specs.Accepted.{accepted}
use Rattle.views.specs.Colourings.{plain}
use Rattle.pressing.specs.Pressed.{left_of}
use Rattle.pressing.specs.Verdicts.{FirstTold}
use Rattle.pressing.proofs.Atomics.{told-means}
use Rattle.reports.specs.Reports.{report_text}
use Rattle.reports.proofs.Printing.{draft-prints}
use Rattle.reports.proofs.pressed.press_in.Goals as goal

pub returns-in-Ok : goal.returns-in-Ok
returns-in-Ok g c =
    let K = g.K.Kind.model in
    let d = c.args.draft.now in
    let ok = accepted d.automaton.signs in
    let back = left_of c.press_draft.new.back c.press_draft.new.columns in
    let last = left_of c.press_draft.new.last c.press_draft.new.chart in
    let q = c.in-Ok.ensures in
    let columns = q.columns_kept.long ∙ (ap length c.fresh-columns.ensures.items ∙ (length-replicate (length c.args.columns.now) (plain 0) ∙ c.requires.columns)) in
    let chart = q.chart_kept.long ∙ (ap length c.fresh-chart.ensures.items ∙ (length-replicate (length c.args.chart.now) (plain 0) ∙ c.requires.chart)) in
    let told = c.first_told.result in
    let onces = c.once_count.result in
    let states = c.state_count-in-Ok.ensures ∙ ap (λ (a : Automaton). size (automata.shown a)) c.automaton-automaton.ensures in
    let first = subst (λ (n : ℕ). FirstTold K back.entries back.len last.entries last.len n told) states c.first_told.ensures in
    let backs = c.state_count.ensures ∙ (ap (λ (t : Grid). count (shown t)) c.grid-in-Ok.ensures ∙ shown-count c.press_draft.new.back.grid) in
    draft-prints K c.args.letter (drawn d) ok back last (length c.args.sets.now) columns chart (Ok tt) q.ended vec_items
    (λ v. vec_items v ≡ report_text c.args.letter (sign_bytes c.grid.result.now.signs) (shown c.grid.result.now) c.state_count.result told onces)
    c.written_text.result
    (λ v e. record {
      told = told;
      first = first;
      means = λ made. told-means K (drawn d) ok back last q.ended made told first;
      onces = onces;
      once = c.once_count.ensures;
      prints = e ∙ (λ i. report_text c.args.letter (sign_bytes (c.grid.ensures i).signs) (shown (c.grid.ensures i)) (backs i) told onces);
    })
    c.written_text.ensures

pub returns-in-Err : goal.returns-in-Err
returns-in-Err g c =
    let K = g.K.Kind.model in
    let d = c.args.draft.now in
    let ok = accepted d.automaton.signs in
    let back = left_of c.press_draft.new.back c.press_draft.new.columns in
    let last = left_of c.press_draft.new.last c.press_draft.new.chart in
    let q = c.in-Err.ensures in
    let columns = q.columns_kept.long ∙ (ap length c.fresh-columns.ensures.items ∙ (length-replicate (length c.args.columns.now) (plain 0) ∙ c.requires.columns)) in
    let chart = q.chart_kept.long ∙ (ap length c.fresh-chart.ensures.items ∙ (length-replicate (length c.args.chart.now) (plain 0) ∙ c.requires.chart)) in
    draft-prints K c.args.letter (drawn d) ok back last (length c.args.sets.now) columns chart (Err c.in-Err.fault) q.ended vec_items
    (λ v. vec_items v ≡ refusal_line c.plain.result) c.refusal_text.result
    (λ v e. e ∙ ap refusal_line (c.plain.ensures ∙ ap (λ (n : ℕ). told n 0 0 0) c.number.ensures)) c.refusal_text.ensures
