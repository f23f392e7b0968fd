use Rattle.dm_prim.proofs.LawProofs.{lists_back}
use Rattle.dm_prim.proofs.laws.commuting_lists_back.Goals as goal

pub returns : goal.returns
returns c = lists_back
