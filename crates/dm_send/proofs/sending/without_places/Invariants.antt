use Rattle.std.proofs.Common.{◌≡◌, ◌++◌}
use Rattle.dm_repo.specs.Squares.{patches}
use Rattle.dm_send.proofs.sending.without_places.Given as goal

abbrev pub invariant-loop-patch : goal.invariant-loop-patch
invariant-loop-patch g l = record {
  can_next : (goal.iterator-loop-patch g).can_next l.patch-iterator;
  is_finite : (goal.iterator-loop-patch g).is_finite l.patch-iterator;
  moved : l.list.items ≡ patches l.yielded;
  whole : l.fn.placed.items ≡ l.yielded ++ l.patch-iterator.rest.items;
}
