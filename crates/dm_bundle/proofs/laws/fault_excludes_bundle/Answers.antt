use Rattle.dm_named.specs.Limits.{standard}
use Rattle.dm_bundle.proofs.NoBundle.{fault_excludes_bundle}
use Rattle.dm_bundle.proofs.laws.fault_excludes_bundle.Goals as goal

pub returns-clause-standard : goal.returns-clause-standard
returns-clause-standard c = fault_excludes_bundle standard

pub returns-clause-within : goal.returns-clause-within
returns-clause-within c = fault_excludes_bundle
