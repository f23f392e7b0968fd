use Rattle.std.proofs.Common.{◌≡◌, take}
use Rattle.dm_named.specs.Conflictors.{sizes_of}
use Rattle.dm_named.proofs.conflictor.total_size.Given as goal

abbrev pub invariant-loop-original : goal.invariant-loop-original
invariant-loop-original g l = l.size ≡ sizes_of (take l.original-index l.originals)
