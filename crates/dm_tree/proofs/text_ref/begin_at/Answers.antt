use Rattle.std.proofs.Common.{arith}
use Rattle.dm_tree.proofs.Borrowed.{begin_read}
use Rattle.dm_tree.proofs.text_ref.begin_at.Goals as goal

pub returns-else-i-eq0 : goal.returns-else-i-eq0
returns-else-i-eq0 c ls e = begin_read c.args.begin c.args.i 0 c.args.ends.now ls (omega (arith, c.if-i-eq0.false)) c.requires e
