use Rattle.std.proofs.Common.{◌≡◌}
use Rattle.dm_mail.specs.Ends.{outlet_mails, SameOutlet}
use Rattle.dm_mirror.proofs.posting.send.Given as goal

abbrev pub invariant-loop : goal.invariant-loop
invariant-loop g l = record {
  same : SameOutlet l.initial.outlet l.outlet;
  mails : outlet_mails l.outlet ≡ outlet_mails l.initial.outlet;
  text : l.text ≡ l.initial.text;
}
