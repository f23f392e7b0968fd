use Rattle.dm_element.proofs.SettledLawLemmas.{plain_settled}
use Rattle.dm_element.proofs.laws.plain_patches_are_settled.Goals as goal

pub returns : goal.returns
returns c = plain_settled
