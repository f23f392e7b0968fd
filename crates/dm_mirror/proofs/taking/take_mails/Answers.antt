use Rattle.std.proofs.Common.{rules}
use Rattle.dm_mirror.proofs.DeliveryLemmas.{below_more, taken_more}
use Rattle.dm_mirror.proofs.FoldLemmas.{fold_more}
use Rattle.dm_mirror.proofs.taking.take_mails.Goals as goal

pub loop-preserved-in-Ok : goal.loop-preserved-in-Ok
loop-preserved-in-Ok g c =
    let inv = c.loop.invariant in
    let mails = c.push_reserved-in-Ok.ensures.items in
    record {
      same = search rules;
      taken = taken_more _ _ _ _ c.in-Ok.mail mails inv.taken c.in-Ok.ensures.order;
      room = search rules;
      room_for_verdicts = search rules;
      most = search rules;
      as_many = search rules;
      below = rw (c.in-Ok.ensures.same.1, mails) (below_more _ c.loop.mails.items c.in-Ok.mail inv.below c.in-Ok.ensures.taken.0.poster);
      fold = rw (mails, c.push_reserved.ensures.items) (fold_more c.args.mirror.repo.patches c.loop.mails.items c.args.policy c.loop.verdicts.items c.loop.repo.patches c.in-Ok.mail c.take_body.result c.take_body.new.repo.patches inv.fold c.take_body.ensures);
    }
