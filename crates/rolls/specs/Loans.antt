-- What a caller that lends entries to a roll has to know of them after each call.
use Rattle.std.specs.Prelude.{◌≡◌, length}
use Rattle.rolls.specs.declared.roll.Roll.{Roll}

-- the entries are the same that were lent, and as many
pub record KeepsLoan {S : Type 0} (old new : Roll S) : Type 0 where
  pub loan : new.entries.ghost_name ≡ old.entries.ghost_name
  pub long : length new.entries.now ≡ length old.entries.now
