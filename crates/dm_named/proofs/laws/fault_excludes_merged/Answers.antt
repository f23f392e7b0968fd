use Rattle.dm_named.proofs.NoMerged.{merged_past}
use Rattle.dm_named.proofs.laws.fault_excludes_merged.Goals as goal

pub returns : goal.returns
returns c = merged_past
