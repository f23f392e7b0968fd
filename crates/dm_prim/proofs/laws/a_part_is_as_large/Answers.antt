use Rattle.dm_prim.proofs.PartLemmas.{as_large}
use Rattle.dm_prim.proofs.laws.a_part_is_as_large.Goals as goal

pub returns : goal.returns
returns c = as_large
