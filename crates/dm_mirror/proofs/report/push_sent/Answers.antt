use Rattle.dm_mirror.proofs.ReportLemmas.{sent_more}
use Rattle.dm_mirror.proofs.report.push_sent.Goals as goal

pub loop-number-preserved : goal.loop-number-preserved
loop-number-preserved c =
    sent_more c.args.out.now.items c.loop-number.out.items c.push_receipt.new.out.items c.args.poster c.args.mirrors.now c.loop-number.number c.index-mirrors-number.result c.receipt.result
    c.loop-number-test.true c.index-mirrors-number.is c.receipt.ensures c.loop-number.invariant c.in_ok-push_receipt.ensures
