use Rattle.dm_prim.proofs.OneAnswer.{hunk_one}
use Rattle.dm_prim.proofs.laws.a_hunk_has_one_answer.Goals as goal

pub returns : goal.returns
returns c = hunk_one
