use Rattle.std.proofs.Common.{◌≡◌, true, false}
use Rattle.dm_disk.proofs.Outcomes.{after_write}
use Rattle.dm_disk.proofs.file.DiskFileDevice.write_at.Goals as goal
use Rattle.dm_disk.proofs.file.DiskFileDevice.write_at.Goals.{else-eq-via-then-eq+else-is_some, else-eq-via-else-eq}

pub returns-then-is_some-clause-crash : goal.returns-then-is_some-clause-crash
returns-then-is_some-clause-crash c = rw c.wrote.ensures (rw c.self.view_is (after_write c.args.self.now c.args.at c.args.bytes.now true c.requires))

pub returns-clause-crash : goal.returns-clause-crash
returns-clause-crash c =
    let same : c.else-eq.self-inside.log.events ≡ c.args.self.now = elim c.else-eq.branch [
      | else-eq-via-then-eq+else-is_some w ↦ rw w.self-inside-is c.self.view_is
      | else-eq-via-else-eq w ↦ rw w.self-inside-is c.self.view_is
    ] in
    rw c.wrote-2.ensures (rw same (after_write c.args.self.now c.args.at c.args.bytes.now false c.requires))
