use Rattle.dm_chain.proofs.Stepping.{steps_keep_chains}
use Rattle.dm_chain.proofs.laws.steps_keep_chains.Goals as goal

pub returns : goal.returns
returns g c = steps_keep_chains _
