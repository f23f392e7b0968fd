use Rattle.std.proofs.Common.{◌≡◌, ◌++◌, map}
use Rattle.dm_element.specs.Lists.{lists_of}
use Rattle.dm_named.specs.ConflictorElements.{shadow_of}
use Rattle.dm_named.proofs.conflictor.into_shadows.Given as goal

abbrev pub invariant-loop-original : goal.invariant-loop-original
invariant-loop-original g l = record {
  can_next : (goal.iterator-loop-original g).can_next l.original-iterator;
  is_finite : (goal.iterator-loop-original g).is_finite l.original-iterator;
  whole : l.fn.originals.items ≡ l.yielded ++ l.original-iterator.rest.items;
  read : lists_of l.shadows.items ≡ map shadow_of l.yielded;
}
