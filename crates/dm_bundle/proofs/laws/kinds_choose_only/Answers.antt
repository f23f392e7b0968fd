use Rattle.dm_bundle.proofs.ChosenKinds.{bundle_chosen}
use Rattle.dm_bundle.proofs.laws.kinds_choose_only.Goals as goal

pub returns : goal.returns
returns c = bundle_chosen
