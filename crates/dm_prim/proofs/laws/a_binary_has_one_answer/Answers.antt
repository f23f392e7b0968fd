use Rattle.dm_prim.proofs.OneAnswer.{binary_parts_one}
use Rattle.dm_prim.proofs.laws.a_binary_has_one_answer.Goals as goal

pub returns : goal.returns
returns c = binary_parts_one
