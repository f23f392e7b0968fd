use Rattle.dm_chain.proofs.Determined.{keep_ports_apart}
use Rattle.dm_chain.proofs.laws.steps_keep_ports_apart.Goals as goal

pub returns : goal.returns
returns g c = keep_ports_apart _
