use Rattle.dm_scratch.proofs.KindLemmas.{taking_keeps_kinds}
use Rattle.dm_scratch.proofs.laws.taking_keeps_kinds.Goals as goal

pub returns : goal.returns
returns c = taking_keeps_kinds
