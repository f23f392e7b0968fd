use Rattle.dm_prim.proofs.PartLemmas.{put_back}
use Rattle.dm_prim.proofs.laws.a_part_is_put_back.Goals as goal

pub returns : goal.returns
returns c = put_back
