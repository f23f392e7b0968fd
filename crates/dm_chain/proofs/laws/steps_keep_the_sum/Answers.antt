use Rattle.dm_chain.proofs.Determined.{keep_the_sum}
use Rattle.dm_chain.proofs.laws.steps_keep_the_sum.Goals as goal

pub returns : goal.returns
returns g c = keep_the_sum _
