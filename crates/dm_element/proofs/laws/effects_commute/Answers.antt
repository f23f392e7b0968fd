use Rattle.dm_element.proofs.ElementLemmas.{effects_do}
use Rattle.dm_element.proofs.laws.effects_commute.Goals as goal

pub returns : goal.returns
returns c = effects_do
