use Rattle.dm_chain.proofs.Turns.{same_changes}
use Rattle.dm_chain.proofs.laws.same_changes_same_file.Goals as goal

pub returns : goal.returns
returns g c = same_changes _
