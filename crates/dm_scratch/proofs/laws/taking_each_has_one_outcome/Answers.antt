use Rattle.dm_scratch.proofs.OneOutcome.{taking_each_one}
use Rattle.dm_scratch.proofs.laws.taking_each_has_one_outcome.Goals as goal

pub returns : goal.returns
returns c = taking_each_one
