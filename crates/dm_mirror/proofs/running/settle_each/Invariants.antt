use Rattle.std.proofs.Common.{◌≡◌, ◌≤◌, ◌+◌, [], length, map}
use Rattle.std.specs.Prelude.{vec_capacity}
use Rattle.std.specs.List.{AllByRecursion}
use Rattle.std.specs.VecDeque.{deque_capacity}
use Rattle.dm_mail.specs.Ends.{inlet_id}
use Rattle.dm_mirror.specs.Jobs.{AreRowsSent, IsKept, IsSettled}
use Rattle.dm_mirror.specs.Plans.{plan_texts, plan_bound}
use Rattle.dm_mirror.proofs.ListLemmas.{Leads}
use Rattle.dm_mirror.proofs.running.settle_each.Given as goal

abbrev pub invariant-loop-one : goal.invariant-loop-one
invariant-loop-one g l =
    let texts = plan_texts l.fn.plan.value in
    record {
      mirrors : Leads (IsSettled texts) l.fn.ended.kept.items l.kept.items l.mirrors.items;
      rows : AreRowsSent (map (λ one. inlet_id one.inlet) l.kept.items) texts (map (λ row. row.items) l.rows.items);
      kept : AllByRecursion (IsKept texts (plan_bound l.fn.plan.value)) l.kept.items;
      empty : (l.room.items ≡ []) × (l.ends.items ≡ []);
      fits : (length texts ≤ deque_capacity l.rows) × (length texts ≤ deque_capacity l.room) × (length texts ≤ deque_capacity l.ends);
      fits_outcome : length l.mirrors.items + length l.kept.items ≤ vec_capacity l.mirrors;
    }

abbrev pub decreases-loop-one : goal.decreases-loop-one
decreases-loop-one g l = length l.kept.items
