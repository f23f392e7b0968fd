use Rattle.std.proofs.Common.{length, map}
use Rattle.dm_named.specs.Many.{Many}
use Rattle.dm_named.specs.Paths.{SlashName}
use Rattle.dm_named.proofs.reading.paths.names_of.Given as goal

abbrev pub invariant-loop-rest : goal.invariant-loop-rest
invariant-loop-rest g l = Many SlashName l.text (map (λ v. v.items) l.names.items) l.rest

abbrev pub decreases-loop-rest : goal.decreases-loop-rest
decreases-loop-rest g l = length l.rest
