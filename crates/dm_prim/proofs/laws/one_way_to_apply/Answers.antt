use Rattle.dm_prim.proofs.LawProofs.{one_map}
use Rattle.dm_prim.proofs.laws.one_way_to_apply.Goals as goal

pub returns : goal.returns
returns c = one_map
