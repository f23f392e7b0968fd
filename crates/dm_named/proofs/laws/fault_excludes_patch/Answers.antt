use Rattle.dm_named.specs.Limits.{standard}
use Rattle.dm_named.proofs.NoPatch.{no_patch}
use Rattle.dm_named.proofs.laws.fault_excludes_patch.Goals as goal

pub returns-clause-standard : goal.returns-clause-standard
returns-clause-standard c = no_patch standard

pub returns-clause-within : goal.returns-clause-within
returns-clause-within c = no_patch
