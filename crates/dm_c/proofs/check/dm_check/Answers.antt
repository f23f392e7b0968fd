use Rattle.dm_c.specs.Calls.{within}
use Rattle.dm_c.proofs.check.dm_check.Goals as goal

pub returns : goal.returns
returns c = within c.in-Some.limits c.in-Some.ensures (rw c.number-2.ensures c.check_within.ensures)
