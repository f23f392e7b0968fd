use Rattle.dm_named.proofs.SixFaults.{fault_of_six}
use Rattle.dm_named.proofs.laws.fault_of_six.Goals as goal

pub returns : goal.returns
returns c = fault_of_six
