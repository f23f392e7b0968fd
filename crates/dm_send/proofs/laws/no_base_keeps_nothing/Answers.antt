use Rattle.dm_send.proofs.Minimal.{no_base_keeps_nothing}
use Rattle.dm_send.proofs.laws.no_base_keeps_nothing.Goals as goal

pub returns : goal.returns
returns c = no_base_keeps_nothing
