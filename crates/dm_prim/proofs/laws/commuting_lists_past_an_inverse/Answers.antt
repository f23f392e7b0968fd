use Rattle.dm_prim.proofs.LawProofs.{lists_past_inverse}
use Rattle.dm_prim.proofs.laws.commuting_lists_past_an_inverse.Goals as goal

pub returns : goal.returns
returns c = lists_past_inverse
