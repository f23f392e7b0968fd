use Rattle.dm_mirror.proofs.ReportLemmas.{mirror_printed}
use Rattle.dm_mirror.proofs.report.push_mirror.Goals as goal

pub returns : goal.returns
returns c =
    mirror_printed c.args.posters c.args.number c.args.mirror.now c.args.out.now.items c.push_number.new.out.items c.push_mails.new.out.items c.push_marks.new.out.items c.push_repo.new.out.items
    c.deref.result.now c.deref-2.result.now c.deref.ensures.value c.deref-2.ensures.value
    c.in_ok-push_number.ensures c.in_ok-push_mails.ensures c.in_ok-push_marks.ensures c.in_ok-push_repo.ensures
