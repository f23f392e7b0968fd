use Rattle.dm_bundle.proofs.ReplaceLemmas.{room_past}
use Rattle.dm_bundle.proofs.replaces.room_after.Goals as goal

pub returns-in-All : goal.returns-in-All
returns-in-All g c = room_past c.args.limits c.args.patch.now c.args.room c.room_among.result c.in-All.is (rw c.prims.ensures at c.room_among.ensures)
