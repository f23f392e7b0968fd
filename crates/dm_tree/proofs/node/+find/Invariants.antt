use Rattle.std.proofs.Common.{length}
use Rattle.dm_tree.proofs.node.+find.Given as goal

abbrev pub decreases-find : goal.decreases-find
decreases-find g l = length l.path.now
