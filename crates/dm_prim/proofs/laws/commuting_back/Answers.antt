use Rattle.dm_prim.proofs.LawProofs.{pairs_back}
use Rattle.dm_prim.proofs.laws.commuting_back.Goals as goal

pub returns : goal.returns
returns c = pairs_back
