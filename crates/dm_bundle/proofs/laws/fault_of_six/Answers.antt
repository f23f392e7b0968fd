use Rattle.dm_bundle.proofs.SixFaults.{fault_of_six}
use Rattle.dm_bundle.proofs.laws.fault_of_six.Goals as goal

pub returns : goal.returns
returns c = fault_of_six
