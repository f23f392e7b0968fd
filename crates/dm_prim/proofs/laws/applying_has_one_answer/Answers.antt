use Rattle.dm_prim.proofs.OneAnswer.{faults_one}
use Rattle.dm_prim.proofs.laws.applying_has_one_answer.Goals as goal

pub returns : goal.returns
returns c = faults_one
