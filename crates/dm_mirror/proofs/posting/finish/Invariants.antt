use Rattle.std.proofs.Common.{◌≤◌, ◌+◌, length}
use Rattle.dm_mail.specs.Ends.{outlet_mails, outlet_poster, SameOutlet}
use Rattle.dm_mirror.specs.Deliveries.{SentUpTo}
use Rattle.dm_mirror.proofs.posting.finish.Given as goal
use Rattle.dm_mail.specs.Limits.{most_bundles}

abbrev pub invariant-loop-text : goal.invariant-loop-text
invariant-loop-text g l = record {
  same : SameOutlet l.fn.line.outlet l.outlet;
  sent : SentUpTo (outlet_poster l.outlet) (outlet_mails l.outlet) l.left.items l.fn.line.texts.value.items;
  few : length (outlet_mails l.outlet) + length l.left.items ≤ most_bundles;
}

abbrev pub decreases-loop-text : goal.decreases-loop-text
decreases-loop-text g l = length l.left.items
