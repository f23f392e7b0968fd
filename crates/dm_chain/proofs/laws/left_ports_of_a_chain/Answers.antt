use Rattle.dm_chain.proofs.Once.{left_ports}
use Rattle.dm_chain.proofs.laws.left_ports_of_a_chain.Goals as goal

pub returns : goal.returns
returns g c = left_ports _
