use Rattle.dm_disk.proofs.Outcomes.{after_sync}
use Rattle.dm_disk.proofs.rehearsal.RehearsalDevice.sync.Goals as goal

pub returns-then-eq-clause-crash : goal.returns-then-eq-clause-crash
returns-then-eq-clause-crash c = rw c.synced.ensures (rw c.self.view_is (after_sync c.args.self.now))
