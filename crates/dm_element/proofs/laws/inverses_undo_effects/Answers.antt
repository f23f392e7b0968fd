use Rattle.dm_element.proofs.ElementLemmas.{inverses_undo}
use Rattle.dm_element.proofs.laws.inverses_undo_effects.Goals as goal

pub returns : goal.returns
returns c = inverses_undo
