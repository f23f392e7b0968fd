use Rattle.dm_chain.proofs.Turns.{hunks_add_up}
use Rattle.dm_chain.proofs.laws.hunks_in_turn_add_up.Goals as goal

pub returns : goal.returns
returns g c = hunks_add_up _
