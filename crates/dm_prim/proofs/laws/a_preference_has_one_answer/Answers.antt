use Rattle.dm_prim.proofs.OneAnswer.{preference_parts_one}
use Rattle.dm_prim.proofs.laws.a_preference_has_one_answer.Goals as goal

pub returns : goal.returns
returns c = preference_parts_one
