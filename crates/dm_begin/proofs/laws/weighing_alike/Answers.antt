use Rattle.dm_begin.proofs.AlikeLemmas.{weighs_alike}
use Rattle.dm_begin.proofs.laws.weighing_alike.Goals as goal

pub returns : goal.returns
returns g c = weighs_alike
