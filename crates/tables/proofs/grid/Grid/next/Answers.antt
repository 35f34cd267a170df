use Rattle.std.proofs.Common.{◌<◌, ◌∙◌, arith, length-take}
use Rattle.std.proofs.lemmas.List.{length-take-le}
use Rattle.automata.proofs.ShownLaws.{sign_count}
use Rattle.tables.proofs.GridLaws.{past_rows, cell_read, next_is}
use Rattle.tables.proofs.grid.Grid.next.Goals as goal

pub returns : goal.returns
returns c =
    let t = c.args.self.now in
    let row = c.in_ok-row.ensures.lookup.3 in
    let next = c.in_ok-next.ensures.lookup.3 in
    let li : c.args.state < c.args.self.now.count = omega (arith, row.0, length-take-le t.count t.rows (omega (arith, t.tall, t.few))) in
    let narrow = sign_count t.signs in
    let la : c.args.letter < c.len.result = omega (arith, simp length-take at next.0) in
    let lb : c.args.letter < c.args.self.now.signs.count = omega (arith, la, c.len.ensures, narrow) in
    next_is t c.args.state c.args.letter c.from.result li lb
    (c.from.ensures ∙ cell_read t.rows t.count c.len.result c.args.state c.args.letter c.in_ok-row.row.now c.in_ok-next.next.now li (row.1 past_rows) la (next.1 0))
