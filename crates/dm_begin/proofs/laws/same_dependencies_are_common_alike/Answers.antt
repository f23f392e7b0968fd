use Rattle.dm_begin.proofs.AlikeLemmas.{common_alike}
use Rattle.dm_begin.proofs.laws.same_dependencies_are_common_alike.Goals as goal

pub returns : goal.returns
returns c = common_alike
