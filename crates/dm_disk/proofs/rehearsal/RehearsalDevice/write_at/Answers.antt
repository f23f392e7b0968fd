use Rattle.std.proofs.Common.{true, false}
use Rattle.dm_disk.proofs.Outcomes.{after_write}
use Rattle.dm_disk.proofs.rehearsal.RehearsalDevice.write_at.Goals as goal

pub returns-then-eq-clause-crash : goal.returns-then-eq-clause-crash
returns-then-eq-clause-crash c = rw c.wrote.ensures (rw c.self.view_is (after_write c.args.self.now c.args.at c.args.bytes.now true c.requires))

pub returns-clause-crash : goal.returns-clause-crash
returns-clause-crash c = rw c.wrote-2.ensures (rw c.self.view_is (after_write c.args.self.now c.args.at c.args.bytes.now false c.requires))
