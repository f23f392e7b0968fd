use Rattle.dm_tree.proofs.OneAnswer.{adding_one}
use Rattle.dm_tree.proofs.laws.adding_has_one_answer.Goals as goal

pub returns : goal.returns
returns c = adding_one
