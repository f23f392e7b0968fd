use Rattle.dm_element.proofs.ElementLemmas.{elements_back}
use Rattle.dm_element.proofs.laws.commuting_elements_back.Goals as goal

pub returns : goal.returns
returns c = elements_back
