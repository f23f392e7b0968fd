use Rattle.dm_named.specs.Limits.{standard}
use Rattle.dm_bundle.proofs.WithinLimits.{no_fault}
use Rattle.dm_bundle.proofs.laws.no_fault_within_limits.Goals as goal

pub returns-clause-standard : goal.returns-clause-standard
returns-clause-standard c = no_fault standard

pub returns-clause-within : goal.returns-clause-within
returns-clause-within c = no_fault
