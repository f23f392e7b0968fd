use Rattle.std.proofs.Common.{◌≡◌, ◌≤◌, length}
use Rattle.std.specs.Prelude.{vec_capacity}
use Rattle.std.specs.VecDeque.{deque_capacity}
use Rattle.dm_mail.specs.Ends.{SameInlet, SameTaken, inlet_id}
use Rattle.dm_mirror.specs.Plans.{plan_texts}
use Rattle.dm_mirror.proofs.DeliveryLemmas.{SettledTo}
use Rattle.dm_mirror.proofs.running.settled.Given as goal

abbrev pub invariant-loop-end : goal.invariant-loop-end
invariant-loop-end g l = record {
  same : SameInlet l.fn.kept.inlet l.inlet;
  taken : SameTaken l.fn.kept.inlet l.inlet;
  settled : SettledTo (inlet_id l.fn.kept.inlet) l.fn.kept.mirror.mails.items (plan_texts l.fn.plan.value) l.mirror.receipts.items l.ends.items;
  room : length (plan_texts l.fn.plan.value) ≤ vec_capacity l.mirror.receipts;
  mails : l.mirror.mails ≡ l.fn.kept.mirror.mails;
  verdicts : l.mirror.verdicts ≡ l.fn.kept.mirror.verdicts;
  repo : l.mirror.repo ≡ l.fn.kept.mirror.repo;
  capacity : deque_capacity l.ends ≡ deque_capacity l.fn.ends;
}

abbrev pub decreases-loop-end : goal.decreases-loop-end
decreases-loop-end g l = length l.ends.items
