use Rattle.std.proofs.Common.{◌≡◌, ◌≤◌, ◌++◌, [], length}
use Rattle.dm_named.specs.Limits.{own}
use Rattle.dm_prim.specs.Prims.{prims_of}
use Rattle.dm_begin.specs.Spreading.{spread}
use Rattle.dm_begin.proofs.spreading.spread_prims.Given as goal

abbrev pub invariant-loop-name : goal.invariant-loop-name
invariant-loop-name g l = record {
  can_next : (goal.iterator-loop-name g).can_next l.name-iterator;
  is_finite : (goal.iterator-loop-name g).is_finite l.name-iterator;
  later : l.later ≡ length l.name-iterator.rest.items;
  few : length l.name-iterator.rest.items ≤ own.patches;
  dealt : l.patches.items ++ spread l.deps.items l.name-iterator.rest.items (prims_of l.queue.items) ≡ spread [] l.fn.names.items (prims_of l.fn.prims.items);
}
