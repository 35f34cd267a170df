use Rattle.std.proofs.Common.{⊎_elim, arith}
use Rattle.fields.proofs.Placed.{cut_part, cut_whole}
use Rattle.fields.proofs.writing.Writer.put_cut.Goals as goal

pub returns-then-room-eq0 : goal.returns-then-room-eq0
returns-then-room-eq0 c =
    cut_whole c.args.piece.now c.put.ensures.puts c.put.ensures.kept
    (λ l. ⊎_elim (λ h. omega (arith, h, l, c.saturating_sub-room.ensures)) (λ h. omega (arith, h.1, c.saturating_sub-room.ensures)) c.if-room-eq0.either)

pub returns-else-room-eq0 : goal.returns-else-room-eq0
returns-else-room-eq0 c =
    let p = c.put-else-room-eq0.ensures in
    record {
      loan = p.puts.loan;
      place = omega (arith, c.saturating_add-self.ensures);
      bytes = cut_part c.args.piece.now c.saturating_sub-room.result (omega (arith, c.if-room-eq0.false.0, c.saturating_sub-room.ensures)) p.puts p.kept;
    }
