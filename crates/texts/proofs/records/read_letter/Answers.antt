use Rattle.std.proofs.Common.{arith}
use Rattle.texts.proofs.Places.{place_told, letter_told}
use Rattle.texts.proofs.records.read_letter.Goals as goal

pub returns-in-len1 : goal.returns-in-len1
returns-in-len1 c =
    letter_told c.args.signs.now c.args.field.now c.place.result (omega (arith, c.in-len1.len_at_least, c.in-len1.len_below))
    (place_told _ c.args.signs.now c.place.result c.place.ensures)
