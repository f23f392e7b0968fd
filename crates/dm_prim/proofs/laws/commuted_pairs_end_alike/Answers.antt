use Rattle.dm_prim.proofs.LawProofs.{pairs_end_alike}
use Rattle.dm_prim.proofs.laws.commuted_pairs_end_alike.Goals as goal

pub returns : goal.returns
returns c = pairs_end_alike
