use Rattle.dm_element.proofs.ElementLemmas.{list_inverses_undo}
use Rattle.dm_element.proofs.laws.list_inverses_undo_effects.Goals as goal

pub returns : goal.returns
returns c = list_inverses_undo
