use Rattle.dm_prim.proofs.OneAnswer.{list_one}
use Rattle.dm_prim.proofs.laws.applying_a_list_has_one_answer.Goals as goal

pub returns : goal.returns
returns c = list_one
