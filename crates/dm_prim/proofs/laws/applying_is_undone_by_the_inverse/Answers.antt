use Rattle.dm_prim.proofs.LawProofs.{inverses_lead_back}
use Rattle.dm_prim.proofs.laws.applying_is_undone_by_the_inverse.Goals as goal

pub returns : goal.returns
returns c = inverses_lead_back
