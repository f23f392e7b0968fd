use Rattle.dm_prim.proofs.PartLemmas.{put_one}
use Rattle.dm_prim.proofs.laws.a_put_is_one.Goals as goal

pub returns : goal.returns
returns c = put_one
