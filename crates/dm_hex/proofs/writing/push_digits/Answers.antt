use Rattle.std.proofs.Common.{arith}
use Rattle.dm_hex.proofs.DigitLemmas.{more_digits, no_digits}
use Rattle.dm_hex.proofs.writing.push_digits.Goals as goal

pub loop-byte-init : goal.loop-byte-init
loop-byte-init g c = no_digits c.args.out.now.items

pub loop-byte-preserved : goal.loop-byte-preserved
loop-byte-preserved g c = more_digits c.args.out.now.items c.loop-byte.out.items c.push.new.self.items c.push-in-loop-byte.new.self.items c.args.bytes.now c.loop-byte.byte-index (omega arith) c.loop-byte.invariant c.in_ok-push.ensures.items c.in_ok-push-2.ensures.items
