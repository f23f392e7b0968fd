use Rattle.dm_chain.proofs.Commuted.{commuted_alike}
use Rattle.dm_chain.proofs.laws.commuted_hunks_step_alike.Goals as goal

pub returns : goal.returns
returns g c = commuted_alike _
