use Rattle.std.proofs.Common.{append-nil}
use Rattle.fields.proofs.Placed.{cut_then}
use Rattle.texts.proofs.LinesPut.{puts_as}
use Rattle.texts.proofs.writing.put_head.Goals as goal

pub returns : goal.returns
returns c =
    let n = append-nil c.args.signs.now in
    puts_as (cc) (cut_then c.put_cut.ensures (cut_then c.put_cut-2.ensures c.put_cut-3.ensures))
