use Rattle.dm_element.proofs.ElementLemmas.{elements_one}
use Rattle.dm_element.proofs.laws.one_way_to_commute_elements.Goals as goal

pub returns : goal.returns
returns c = elements_one
