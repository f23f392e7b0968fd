use Rattle.std.proofs.Common.{arith}
use Rattle.dm_info.proofs.Written.{ends_so}
use Rattle.dm_info.proofs.writing.push_end.Goals as goal

pub returns-clause-text : goal.returns-clause-text
returns-clause-text g c = rw (c.in_ok-push-4.ensures.items, c.loop-i.invariant) (ends_so c.args.out.now.items c.args.info.now.log c.loop-i.i (omega (arith, c.log_len-count.ensures.value)))
