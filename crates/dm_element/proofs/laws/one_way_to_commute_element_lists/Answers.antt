use Rattle.dm_element.proofs.ElementLemmas.{element_lists_one}
use Rattle.dm_element.proofs.laws.one_way_to_commute_element_lists.Goals as goal

pub returns : goal.returns
returns c = element_lists_one
