use Rattle.std.proofs.Common.{◌≤◌, length, drop}
use Rattle.dm_agree.specs.Owners.{OwnsNone}
use Rattle.dm_agree.proofs.owners.last_owned.Given as goal

abbrev pub invariant-loop-count : goal.invariant-loop-count
invariant-loop-count g l = (l.count ≤ length l.patches) × OwnsNone l.owners (drop l.count l.patches)

abbrev pub decreases-loop-count : goal.decreases-loop-count
decreases-loop-count g l = l.count
