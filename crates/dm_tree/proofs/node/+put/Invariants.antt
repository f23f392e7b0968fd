use Rattle.std.proofs.Common.{length}
use Rattle.dm_tree.proofs.node.+put.Given as goal

abbrev pub decreases-put : goal.decreases-put
decreases-put g l = length l.path.now
