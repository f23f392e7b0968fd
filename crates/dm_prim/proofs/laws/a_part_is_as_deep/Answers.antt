use Rattle.dm_prim.proofs.PartLemmas.{as_deep}
use Rattle.dm_prim.proofs.laws.a_part_is_as_deep.Goals as goal

pub returns : goal.returns
returns c = as_deep
