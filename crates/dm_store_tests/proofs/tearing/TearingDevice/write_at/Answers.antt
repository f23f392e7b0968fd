use Rattle.std.proofs.Common.{rules, ◌≤◌, length}
use Rattle.dm_store_tests.proofs.Parts.{torn_within}
use Rattle.dm_store_tests.proofs.tearing.TearingDevice.write_at.Goals as goal

pub returns-clause-crash : goal.returns-clause-crash
returns-clause-crash g c =
    λ after left.
    let before = c.write_at-done.ensures.crash after left in
    let fewer : length c.deref.result.now ≤ length c.args.bytes.now = search rules in
    (before.0, before.1, torn_within c.args.at (length c.deref.result.now) (length c.args.bytes.now) fewer before.0 after before.2)
