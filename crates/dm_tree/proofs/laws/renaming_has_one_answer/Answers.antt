use Rattle.dm_tree.proofs.OneAnswer.{renaming_one}
use Rattle.dm_tree.proofs.laws.renaming_has_one_answer.Goals as goal

pub returns : goal.returns
returns c = renaming_one
