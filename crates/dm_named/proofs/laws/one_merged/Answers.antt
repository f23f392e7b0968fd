use Rattle.dm_named.proofs.MergedLemmas.{one_merged}
use Rattle.dm_named.proofs.laws.one_merged.Goals as goal

pub returns : goal.returns
returns c = one_merged
