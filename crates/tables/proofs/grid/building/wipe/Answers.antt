use Rattle.tables.proofs.Filled.{wiped}
use Rattle.tables.proofs.grid.building.wipe.Goals as goal

pub returns : goal.returns
returns g c = record {
  kept = c.clear.ensures.kept;
  wiped = wiped g.T.State.blank c.args.roll.now.entries.now _ _ _ _ _ c.blank.ensures c.clear.ensures.items c.clear.ensures.len;
}
