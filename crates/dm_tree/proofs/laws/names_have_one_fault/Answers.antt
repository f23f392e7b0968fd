use Rattle.dm_tree.proofs.OneAnswer.{names_one}
use Rattle.dm_tree.proofs.laws.names_have_one_fault.Goals as goal

pub returns : goal.returns
returns c = names_one
