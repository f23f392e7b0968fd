use Rattle.dm_element.proofs.SettledLawLemmas.{settled_stay}
use Rattle.dm_element.proofs.laws.settled_patches_stay.Goals as goal

pub returns : goal.returns
returns c = settled_stay
