use Rattle.dm_disk.proofs.Outcomes.{after_sync}
use Rattle.dm_disk.proofs.file.DiskFileDevice.sync.Goals as goal

pub returns-then-is_some-2-clause-crash : goal.returns-then-is_some-2-clause-crash
returns-then-is_some-2-clause-crash c = rw c.synced.ensures (rw c.self.view_is (after_sync c.args.self.now))
