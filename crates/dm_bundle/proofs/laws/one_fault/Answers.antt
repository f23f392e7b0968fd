use Rattle.dm_named.specs.Limits.{standard}
use Rattle.dm_bundle.proofs.OneFault.{one_fault}
use Rattle.dm_bundle.proofs.laws.one_fault.Goals as goal

pub returns-clause-standard : goal.returns-clause-standard
returns-clause-standard c = one_fault standard

pub returns-clause-within : goal.returns-clause-within
returns-clause-within c = one_fault
