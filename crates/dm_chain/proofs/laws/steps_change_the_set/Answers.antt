use Rattle.dm_chain.proofs.Determined.{change_the_set}
use Rattle.dm_chain.proofs.laws.steps_change_the_set.Goals as goal

pub returns : goal.returns
returns g c = change_the_set _
