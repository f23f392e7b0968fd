use Rattle.dm_store.proofs.KeptKinds.{keeps_its_kinds}
use Rattle.dm_store.proofs.laws.a_file_keeps_its_kinds.Goals as goal

pub returns : goal.returns
returns c = keeps_its_kinds
