use Rattle.dm_repo.proofs.OneAnswer.{weighing_one}
use Rattle.dm_repo.proofs.laws.weighing_has_one_answer.Goals as goal

pub returns : goal.returns
returns c = weighing_one
