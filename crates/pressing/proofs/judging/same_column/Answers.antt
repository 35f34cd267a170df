use Rattle.std.proofs.Common.{rules}
use Rattle.std.proofs.iter.runs.Made.{chains}
use borrow.Author.Tests.{tests}
use Rattle.pressing.proofs.Columns.{columns_decide}
use Rattle.pressing.proofs.judging.same_column.Goals as goal

-- what each turn compares is left to the search, so that the rows may be gone through in another way
pub returns : goal.returns
returns g c =
    let roll = c.args.chart.now in
    columns_decide g.K.Kind.model roll.entries.now roll.len roll.within c.args.low c.args.high c.all.result (search (rules, chains, tests))
