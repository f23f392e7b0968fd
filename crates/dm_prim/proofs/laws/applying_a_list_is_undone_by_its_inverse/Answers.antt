use Rattle.dm_prim.proofs.LawProofs.{list_inverses_lead_back}
use Rattle.dm_prim.proofs.laws.applying_a_list_is_undone_by_its_inverse.Goals as goal

pub returns : goal.returns
returns c = list_inverses_lead_back
