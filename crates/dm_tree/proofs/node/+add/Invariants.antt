use Rattle.std.proofs.Common.{length}
use Rattle.dm_tree.proofs.node.+add.Given as goal

abbrev pub decreases-add : goal.decreases-add
decreases-add g l = length l.path.now
