use Rattle.dm_begin.proofs.AlikeLemmas.{answers_alike, trees_stay_alike}
use Rattle.dm_begin.proofs.laws.answers_alike.Goals as goal

pub returns : goal.returns
returns c = record { answers = answers_alike; trees = trees_stay_alike }
