use Rattle.std.proofs.Common.{arith}
use Rattle.dm_hex.proofs.DigitLemmas.{put_more}
use Rattle.dm_hex.proofs.reading.put_together.Goals as goal

pub loop-i-preserved : goal.loop-i-preserved
loop-i-preserved g c = put_more c.args.lines.now c.loop-i.i c.loop-i.digits.items c.extend_from_slice.new.self.items c.line.result.now (omega arith) c.loop-i.invariant c.in_ok-extend_from_slice.ensures.items c.line.ensures
