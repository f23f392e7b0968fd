use Rattle.dm_prim.proofs.PartLemmas.{part_lawful}
use Rattle.dm_prim.proofs.laws.a_part_is_lawful.Goals as goal

pub returns : goal.returns
returns c = part_lawful
