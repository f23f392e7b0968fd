use Rattle.dm_info.proofs.OneFault.{fault_excludes_info}
use Rattle.dm_info.proofs.laws.fault_excludes_info.Goals as goal

pub returns : goal.returns
returns c = fault_excludes_info
