use Rattle.dm_send.proofs.Minimal.{base_is_named}
use Rattle.dm_send.proofs.laws.base_is_named.Goals as goal

pub returns : goal.returns
returns c = base_is_named
