use Rattle.dm_repo.specs.Stops.{AreMarkedUpTo}
use Rattle.dm_repo.proofs.parted.kept_in_place.Given as goal

abbrev pub invariant-loop-k : goal.invariant-loop-k
invariant-loop-k l = AreMarkedUpTo l.marks l.k
