use Rattle.dm_tree.proofs.OneAnswer.{editing_one}
use Rattle.dm_tree.proofs.laws.editing_has_one_answer.Goals as goal

pub returns : goal.returns
returns c = editing_one
