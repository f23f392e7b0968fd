use Rattle.std.proofs.Common.{◌≡◌}
use Rattle.dm_info.proofs.Written.{so_far}
use Rattle.dm_info.proofs.writing.push_end.Given as goal

abbrev pub invariant-loop-i : goal.invariant-loop-i
invariant-loop-i g l = l.out.items ≡ so_far l.fn.out.items l.info.log l.i
