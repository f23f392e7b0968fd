use Rattle.dm_prim.proofs.LawProofs.{pairs_past_inverse}
use Rattle.dm_prim.proofs.laws.commuting_past_an_inverse.Goals as goal

pub returns : goal.returns
returns c = pairs_past_inverse
