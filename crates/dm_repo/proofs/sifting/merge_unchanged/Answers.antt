use Rattle.dm_repo.proofs.AskedRows.{apart_merge}
use Rattle.dm_repo.proofs.sifting.merge_unchanged.Goals as goal

pub returns-clause-square : goal.returns-clause-square
returns-clause-square g c = λ yes. apart_merge c.args.next.now c.args.patch.now (c.in_ok-unchanged.ensures.prims yes)
