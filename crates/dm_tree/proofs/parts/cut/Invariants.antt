use Rattle.std.proofs.Common.{◌-◌}
use Rattle.dm_tree.proofs.Joined.{CutTo}
use Rattle.dm_tree.proofs.parts.cut.Given as goal

abbrev pub invariant-loop-at : goal.invariant-loop-at
invariant-loop-at g l = CutTo l.parts.items l.lines l.at

abbrev pub decreases-loop-at : goal.decreases-loop-at
decreases-loop-at g l = l.total - l.at
