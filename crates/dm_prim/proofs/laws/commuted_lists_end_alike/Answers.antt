use Rattle.dm_prim.proofs.LawProofs.{lists_end_alike}
use Rattle.dm_prim.proofs.laws.commuted_lists_end_alike.Goals as goal

pub returns : goal.returns
returns c = lists_end_alike
