use Rattle.dm_prim.proofs.LawProofs.{one_pair}
use Rattle.dm_prim.proofs.laws.one_way_to_commute.Goals as goal

pub returns : goal.returns
returns c = one_pair
