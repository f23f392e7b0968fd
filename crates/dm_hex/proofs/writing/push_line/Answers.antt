use Rattle.std.proofs.Common.{arith}
use Rattle.dm_hex.proofs.StarLemmas.{line_written}
use Rattle.dm_hex.proofs.writing.push_line.Goals as goal

pub returns : goal.returns
returns g c = line_written c.args.out.now.items c.push.new.self.items c.push_digits.new.out.items c.push-2.new.self.items c.args.bytes.now c.args.k c.min-end.result c.requires (omega arith) c.in_ok-push.ensures.items c.in_ok-push_digits.ensures c.in_ok-push-2.ensures.items
