use Rattle.dm_chain.proofs.Stepping.{inverses_step_back}
use Rattle.dm_chain.proofs.laws.inverses_step_back.Goals as goal

pub returns : goal.returns
returns g c = inverses_step_back _
