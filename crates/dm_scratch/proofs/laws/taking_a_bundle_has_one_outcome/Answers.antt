use Rattle.dm_scratch.proofs.OneOutcome.{taking_a_bundle_one}
use Rattle.dm_scratch.proofs.laws.taking_a_bundle_has_one_outcome.Goals as goal

pub returns : goal.returns
returns c = taking_a_bundle_one
