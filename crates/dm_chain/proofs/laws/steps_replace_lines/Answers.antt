use Rattle.dm_chain.proofs.Stepping.{steps_replace}
use Rattle.dm_chain.proofs.laws.steps_replace_lines.Goals as goal

pub returns : goal.returns
returns g c = steps_replace _
