use Rattle.dm_c.specs.Calls.{begun, begun_before}
use Rattle.dm_c.proofs.repository.dm_repo_new.Goals as goal

pub returns-in-Some : goal.returns-in-Some
returns-in-Some c = begun_before c.in-Some.old.value c.in-Some.ensures.old c.put.ensures c.number.ensures

pub returns-in-Ok : goal.returns-in-Ok
returns-in-Ok c = begun c.in-Ok.new.value c.in-Ok.ensures.ok c.in_default.ensures.old c.put-in-Ok.ensures c.number-in-Ok.ensures
