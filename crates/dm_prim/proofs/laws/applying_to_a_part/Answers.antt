use Rattle.dm_prim.proofs.PartLemmas.{applies_to_part}
use Rattle.dm_prim.proofs.laws.applying_to_a_part.Goals as goal

pub returns : goal.returns
returns c = applies_to_part
