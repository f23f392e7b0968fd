use Rattle.dm_element.proofs.ShadowLemmas.{merges_turn}
use Rattle.dm_element.proofs.laws.merging_turns.Goals as goal

pub returns : goal.returns
returns c = merges_turn
