use Rattle.dm_mirror.proofs.ReportLemmas.{mails_more}
use Rattle.dm_mirror.proofs.report.push_mails.Goals as goal

pub loop-k-preserved : goal.loop-k-preserved
loop-k-preserved c =
    mails_more c.args.out.now.items c.loop-k.out.items c.push_mail.new.out.items c.args.mails.now c.args.verdicts.now c.loop-k.k c.index-mails-k.result _ c.loop-k-test.true c.requires c.index-mails-k.is
    c.loop-k.invariant c.in_ok-push_mail.ensures
