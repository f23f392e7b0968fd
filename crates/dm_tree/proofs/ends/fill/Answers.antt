use Rattle.std.proofs.Common.{arith}
use Rattle.dm_tree.proofs.Places.{filled_all}
use Rattle.dm_tree.proofs.ends.fill.Goals as goal

pub returns : goal.returns
returns c = filled_all _ _ _ _ _ c.loop-i.i c.requires.within (omega arith) c.loop-i.invariant
