use Rattle.dm_named.proofs.NoConflictor.{conflictor_past}
use Rattle.dm_named.proofs.laws.fault_excludes_conflictor.Goals as goal

pub returns : goal.returns
returns c = conflictor_past
