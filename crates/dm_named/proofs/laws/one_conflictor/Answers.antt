use Rattle.dm_named.proofs.ConflictorLemmas.{one_conflictor}
use Rattle.dm_named.proofs.laws.one_conflictor.Goals as goal

pub returns : goal.returns
returns c = one_conflictor
