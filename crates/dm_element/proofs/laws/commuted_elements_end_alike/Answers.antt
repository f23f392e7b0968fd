use Rattle.dm_element.proofs.ElementLemmas.{elements_end_alike}
use Rattle.dm_element.proofs.laws.commuted_elements_end_alike.Goals as goal

pub returns : goal.returns
returns c = elements_end_alike
