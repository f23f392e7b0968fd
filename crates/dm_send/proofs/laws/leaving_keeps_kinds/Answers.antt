use Rattle.dm_send.proofs.KindLemmas.{leaving_keeps_kinds}
use Rattle.dm_send.proofs.laws.leaving_keeps_kinds.Goals as goal

pub returns : goal.returns
returns c = leaving_keeps_kinds
