use Rattle.dm_chain.proofs.Once.{one_way}
use Rattle.dm_chain.proofs.laws.one_way_to_step.Goals as goal

pub returns : goal.returns
returns g c = one_way _
