use Rattle.dm_repo.proofs.KindLemmas.{merge_keeps_kinds}
use Rattle.dm_repo.proofs.laws.merge_keeps_kinds.Goals as goal

pub returns : goal.returns
returns c = merge_keeps_kinds
