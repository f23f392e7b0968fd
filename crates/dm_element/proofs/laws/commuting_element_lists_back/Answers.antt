use Rattle.dm_element.proofs.ElementLemmas.{element_lists_back}
use Rattle.dm_element.proofs.laws.commuting_element_lists_back.Goals as goal

pub returns : goal.returns
returns c = element_lists_back
