use Rattle.dm_named.specs.Limits.{standard}
use Rattle.dm_named.proofs.WithinCount.{memory_alone}
use Rattle.dm_named.proofs.laws.no_fault_within_count.Goals as goal

pub returns-clause-standard : goal.returns-clause-standard
returns-clause-standard c = memory_alone standard

pub returns-clause-within : goal.returns-clause-within
returns-clause-within c = memory_alone
