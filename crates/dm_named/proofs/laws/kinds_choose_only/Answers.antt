use Rattle.dm_named.proofs.ChosenKinds.{patch_chosen}
use Rattle.dm_named.proofs.laws.kinds_choose_only.Goals as goal

pub returns : goal.returns
returns c = patch_chosen
