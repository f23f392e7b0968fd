use Rattle.dm_store.proofs.OnceLemmas.{twice}
use Rattle.dm_store.proofs.laws.twice_is_once.Goals as goal

pub returns : goal.returns
returns c = twice
