use Rattle.std.proofs.Common.{arith, ◌-◌}
use Rattle.dm_deliver.proofs.LineLemmas.{cut_text}
use Rattle.dm_deliver.proofs.framed.Framed.read_rest.Goals as goal

pub returns-then-count-eq0-clause-fault : goal.returns-then-count-eq0-clause-fault
returns-then-count-eq0-clause-fault g c =
    cut_text c.read_part.new.text.items (c.loop-left.left - c.in_ok-count.count) (g.R.Read.remaining c.read_part.new.reader)
    (omega (arith, c.loop-left-test.true, c.if-count-eq0.true)) (c.in_ok-count.ensures.end c.if-count-eq0.true c.loop-left-test.true)
