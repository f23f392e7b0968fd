use Rattle.dm_store.proofs.WholeLemmas.{taken_again}
use Rattle.dm_store.proofs.laws.a_repository_is_taken_again.Goals as goal

pub returns : goal.returns
returns c = taken_again
