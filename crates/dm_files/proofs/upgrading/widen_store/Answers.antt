use Rattle.dm_disk.specs.States.{seen}
use Rattle.dm_files.proofs.upgrading.widen_store.Goals as goal

pub returns-in-Err-clause-tells : goal.returns-in-Err-clause-tells
returns-in-Err-clause-tells c = c.blame.ensures (seen c.args.store.journal.device) tt
