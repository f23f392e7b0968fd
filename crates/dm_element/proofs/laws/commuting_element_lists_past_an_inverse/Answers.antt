use Rattle.dm_element.proofs.ElementLemmas.{element_lists_past_inverse}
use Rattle.dm_element.proofs.laws.commuting_element_lists_past_an_inverse.Goals as goal

pub returns : goal.returns
returns c = element_lists_past_inverse
