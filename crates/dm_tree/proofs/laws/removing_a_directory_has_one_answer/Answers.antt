use Rattle.dm_tree.proofs.OneAnswer.{removing_a_directory_one}
use Rattle.dm_tree.proofs.laws.removing_a_directory_has_one_answer.Goals as goal

pub returns : goal.returns
returns c = removing_a_directory_one
