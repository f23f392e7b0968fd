use Rattle.dm_element.proofs.ElementLemmas.{elements_past_inverse}
use Rattle.dm_element.proofs.laws.commuting_elements_past_an_inverse.Goals as goal

pub returns : goal.returns
returns c = elements_past_inverse
