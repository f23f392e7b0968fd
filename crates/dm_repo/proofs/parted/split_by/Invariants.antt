use Rattle.std.proofs.Common.{◌≡◌, ◌++◌}
use Rattle.dm_repo.specs.Staircases.{Split}
use Rattle.dm_repo.specs.Squares.{PlacedCommutes}
use Rattle.dm_repo.specs.Stops.{IsMarked}
use Rattle.dm_repo.proofs.parted.split_by.Given as goal

abbrev pub invariant-loop-place : goal.invariant-loop-place
invariant-loop-place g l = record {
  can_next : (goal.iterator-loop-place g).can_next l.place-iterator;
  is_finite : (goal.iterator-loop-place g).is_finite l.place-iterator;
  whole : l.fn.patches.items ≡ l.yielded ++ l.place-iterator.rest.items;
  split : Split PlacedCommutes (IsMarked l.marks) l.yielded l.front.items l.rest.items;
}
