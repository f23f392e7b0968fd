use Rattle.dm_begin.proofs.WholeLemmas.{whole_is_taken}
use Rattle.dm_begin.proofs.laws.a_whole_repository_is_taken.Goals as goal

pub returns : goal.returns
returns c = whole_is_taken
