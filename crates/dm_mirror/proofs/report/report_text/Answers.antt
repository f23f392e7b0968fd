use Rattle.std.proofs.Common.{arith}
use Rattle.dm_mirror.proofs.ReportLemmas.{mirrors_more}
use Rattle.dm_mirror.proofs.report.report_text.Goals as goal

pub loop-number-preserved : goal.loop-number-preserved
loop-number-preserved c =
    let part = c.in_ok-push_mirror.ensures in
    mirrors_more c.args.outcome.now.posters c.args.outcome.now.mirrors.items c.loop-number.number c.index.result.now c.loop-number.text.items c.push_mirror.new.out.items part.0
    (omega (arith, c.loop-number-test.true, c.len-number-end.ensures)) c.index.ensures c.loop-number.invariant part.1 part.2
