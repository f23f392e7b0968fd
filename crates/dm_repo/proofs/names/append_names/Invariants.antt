use Rattle.std.proofs.Common.{◌≡◌, ◌≤◌, ◌++◌, length}
use Rattle.indexmap.specs.IndexSet.{spare}
use Rattle.dm_repo.proofs.names.append_names.Given as goal

abbrev pub invariant-loop-name : goal.invariant-loop-name
invariant-loop-name g l = record {
  can_next : (goal.iterator-loop-name g).can_next l.name-iterator;
  is_finite : (goal.iterator-loop-name g).is_finite l.name-iterator;
  room : length l.name-iterator.rest.items ≤ spare l.names;
  all : l.names.keys ++ l.name-iterator.rest.items ≡ l.fn.names.keys ++ l.fn.more.items;
}
