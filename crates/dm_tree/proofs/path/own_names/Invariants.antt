use Rattle.std.proofs.Common.{◌≡◌, ◌++◌, map}
use Rattle.dm_tree.proofs.path.own_names.Given as goal

abbrev pub invariant-loop-name : goal.invariant-loop-name
invariant-loop-name g l = record {
  can_next : (goal.iterator-loop-name g).can_next l.name-iterator;
  is_finite : (goal.iterator-loop-name g).is_finite l.name-iterator;
  all : l.owned.items ++ map (λ v. v.items) l.name-iterator.rest.items ≡ map (λ v. v.items) l.fn.names.items;
}
