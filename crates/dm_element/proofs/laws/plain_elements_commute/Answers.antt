use Rattle.dm_element.proofs.ElementLemmas.{plains_commute}
use Rattle.dm_element.proofs.laws.plain_elements_commute.Goals as goal

pub returns : goal.returns
returns c = plains_commute
