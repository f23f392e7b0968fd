use Rattle.dm_tree.proofs.OneAnswer.{line_one}
use Rattle.dm_tree.proofs.laws.a_line_has_one_fault.Goals as goal

pub returns : goal.returns
returns c = line_one
