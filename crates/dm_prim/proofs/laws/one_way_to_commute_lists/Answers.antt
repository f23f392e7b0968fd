use Rattle.dm_prim.proofs.LawProofs.{one_pair_of_lists}
use Rattle.dm_prim.proofs.laws.one_way_to_commute_lists.Goals as goal

pub returns : goal.returns
returns c = one_pair_of_lists
