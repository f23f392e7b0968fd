use Rattle.std.proofs.Common.{◌≡◌, ◌++◌, map}
use Rattle.dm_element.specs.Lists.{lists_of}
use Rattle.dm_named.specs.ConflictorElements.{shadow_of}
use Rattle.dm_named.proofs.conflictor.from_shadows.Given as goal

abbrev pub invariant-loop-shadow : goal.invariant-loop-shadow
invariant-loop-shadow g l = record {
  can_next : (goal.iterator-loop-shadow g).can_next l.shadow-iterator;
  is_finite : (goal.iterator-loop-shadow g).is_finite l.shadow-iterator;
  whole : l.fn.shadows.items ≡ l.yielded ++ l.shadow-iterator.rest.items;
  read : map shadow_of l.originals.items ≡ lists_of l.yielded;
}
