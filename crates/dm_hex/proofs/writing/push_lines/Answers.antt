use Rattle.std.proofs.Common.{arith}
use Rattle.dm_hex.proofs.StarLemmas.{lines_more, lines_written}
use Rattle.dm_hex.proofs.writing.push_lines.Goals as goal

pub loop-k-preserved : goal.loop-k-preserved
loop-k-preserved g c = lines_more c.args.out.now.items c.loop-k.out.items c.push_line.new.out.items c.args.bytes.now c.loop-k.k c.loop-k.invariant c.in_ok-push_line.ensures

pub returns-clause-text : goal.returns-clause-text
returns-clause-text g c = lines_written c.args.out.now.items c.loop-k.out.items c.args.bytes.now c.loop-k.k (omega arith) c.loop-k.invariant

pub returns-clause-bytes : goal.returns-clause-bytes
returns-clause-bytes g c = λ i. let fits = c.type_inv.bytes i in omega arith
