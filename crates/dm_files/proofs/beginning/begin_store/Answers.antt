use Rattle.dm_disk.specs.States.{seen}
use Rattle.dm_files.proofs.beginning.begin_store.Goals as goal

pub returns-in-Err-clause-tells : goal.returns-in-Err-clause-tells
returns-in-Err-clause-tells c = c.of_unbegun.ensures (seen c.args.file) c.in-Err.ensures.in_the_way
