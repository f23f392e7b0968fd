use Rattle.dm_info.proofs.OneFault.{one_of_text}
use Rattle.dm_info.proofs.laws.one_fault.Goals as goal

pub returns : goal.returns
returns c = one_of_text
