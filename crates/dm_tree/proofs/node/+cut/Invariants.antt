use Rattle.std.proofs.Common.{length}
use Rattle.dm_tree.proofs.node.+cut.Given as goal

abbrev pub decreases-cut : goal.decreases-cut
decreases-cut g l = length l.path.now
