use Rattle.std.proofs.Common.{◌≡◌, ◌++◌}
use Rattle.dm_prim.specs.Prims.{prims_of}
use Rattle.dm_send.specs.Undoing.{prims_in}
use Rattle.dm_send.proofs.undoing.inverses.Given as goal

abbrev pub invariant-loop-patch : goal.invariant-loop-patch
invariant-loop-patch g l = record {
  can_next : (goal.iterator-loop-patch g).can_next l.patch-iterator;
  is_finite : (goal.iterator-loop-patch g).is_finite l.patch-iterator;
  moved : prims_of l.prims.items ≡ prims_in l.yielded;
  whole : l.fn.list.items ≡ l.yielded ++ l.patch-iterator.rest.items;
}
