use Rattle.std.proofs.Common.{◌≡◌, take, drop}
use Rattle.dm_repo.specs.Squares.{placed}
use Rattle.dm_repo.proofs.parted.with_places.Given as goal

abbrev pub invariant-loop-k : goal.invariant-loop-k
invariant-loop-k g l = record {
  can_next : (goal.iterator-loop-k g).can_next l.k-iterator;
  is_finite : (goal.iterator-loop-k g).is_finite l.k-iterator;
  left : drop l.k-iterator.count l.fn.patches.items ≡ l.k-iterator.iter.rest.items;
  placed_so_far : l.list.items ≡ placed (take l.k-iterator.count l.fn.patches.items);
}
