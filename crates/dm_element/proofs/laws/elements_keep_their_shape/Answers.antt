use Rattle.dm_element.proofs.ElementLemmas.{elements_keep_shape}
use Rattle.dm_element.proofs.laws.elements_keep_their_shape.Goals as goal

pub returns : goal.returns
returns c = elements_keep_shape
