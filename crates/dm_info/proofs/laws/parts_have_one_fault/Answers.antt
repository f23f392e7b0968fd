use Rattle.dm_info.proofs.OneFault.{one_of_parts}
use Rattle.dm_info.proofs.laws.parts_have_one_fault.Goals as goal

pub returns : goal.returns
returns c = one_of_parts
