use Rattle.dm_chain.proofs.Adding.{sums_join}
use Rattle.dm_chain.proofs.laws.sums_join.Goals as goal

pub returns : goal.returns
returns g c = sums_join _
