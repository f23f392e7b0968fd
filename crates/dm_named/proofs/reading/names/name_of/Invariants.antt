use Rattle.std.proofs.Common.{length}
use Rattle.dm_named.specs.Paths.{NameByte}
use Rattle.dm_named.specs.Many.{Many}
use Rattle.dm_named.proofs.reading.names.name_of.Given as goal

abbrev pub invariant-loop-rest : goal.invariant-loop-rest
invariant-loop-rest g l = Many NameByte l.text l.name.items l.rest

abbrev pub decreases-loop-rest : goal.decreases-loop-rest
decreases-loop-rest g l = length l.rest
