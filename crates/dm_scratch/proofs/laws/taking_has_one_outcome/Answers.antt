use Rattle.dm_scratch.proofs.OneOutcome.{taking_one}
use Rattle.dm_scratch.proofs.laws.taking_has_one_outcome.Goals as goal

pub returns : goal.returns
returns c = taking_one
