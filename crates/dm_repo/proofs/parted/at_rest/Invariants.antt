use Rattle.std.proofs.Common.{◌≡◌, ◌++◌}
use Rattle.dm_repo.proofs.parted.at_rest.Given as goal

abbrev pub invariant-loop-place : goal.invariant-loop-place
invariant-loop-place g l = record {
  can_next : (goal.iterator-loop-place g).can_next l.place-iterator;
  is_finite : (goal.iterator-loop-place g).is_finite l.place-iterator;
  moved : l.patches.items ≡ l.yielded;
  whole : l.fn.list.items ≡ l.yielded ++ l.place-iterator.rest.items;
}
