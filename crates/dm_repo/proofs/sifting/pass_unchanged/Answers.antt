use Rattle.std.proofs.Common.{rules}
use Rattle.dm_repo.proofs.AskedRows.{apart_pass}
use Rattle.dm_repo.proofs.sifting.pass_unchanged.Goals as goal

pub returns-clause-square : goal.returns-clause-square
returns-clause-square g c = λ yes. apart_pass c.args.next.now c.args.patch.now (search rules) (search rules) (c.in_ok-unchanged.ensures.prims yes)
