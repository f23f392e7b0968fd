use Rattle.std.proofs.Common.{◌≡◌, ◌≤◌, ◌+◌, [], length}
use Rattle.std.specs.List.{AllByRecursion}
use Rattle.std.specs.VecDeque.{deque_capacity}
use Rattle.dm_mail.specs.Ends.{outlet_mails}
use Rattle.dm_mirror.specs.Jobs.{IsLine}
use Rattle.dm_mirror.proofs.ListLemmas.{Leads}
use Rattle.dm_mirror.proofs.running.job_of.Given as goal

abbrev pub invariant-loop-outlet : goal.invariant-loop-outlet
invariant-loop-outlet l = record {
  lines : Leads (IsLine l.fn.poster.texts.value.items) l.fn.outlets.items l.outlets.items l.lines.items;
  unsent : AllByRecursion (λ outlet. outlet_mails outlet ≡ []) l.outlets.items;
  alike : AllByRecursion (λ copy. copy.items ≡ l.fn.poster.texts.value.items) l.copies.items;
  as_many : length l.copies.items ≡ length l.outlets.items;
  fits : length l.lines.items + length l.outlets.items ≤ deque_capacity l.lines;
}

abbrev pub decreases-loop-outlet : goal.decreases-loop-outlet
decreases-loop-outlet l = length l.outlets.items
