use Rattle.dm_store.proofs.KeptBase.{keeps_a_base}
use Rattle.dm_store.proofs.laws.a_file_keeps_a_base.Goals as goal

pub returns : goal.returns
returns c = keeps_a_base
