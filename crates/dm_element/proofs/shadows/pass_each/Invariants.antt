use Rattle.std.proofs.Common.{◌≡◌, ◌++◌}
use Rattle.dm_prim.specs.Prims.{prims_of}
use Rattle.dm_element.specs.Elements.{EachPasses}
use Rattle.dm_element.specs.Lists.{lists_of}
use Rattle.dm_element.proofs.shadows.pass_each.Given as goal

abbrev pub invariant-loop-shadow : goal.invariant-loop-shadow
invariant-loop-shadow g l = record {
  can_next : (goal.iterator-loop-shadow g).can_next l.shadow-iterator;
  is_finite : (goal.iterator-loop-shadow g).is_finite l.shadow-iterator;
  whole : l.fn.shadows.items ≡ l.yielded ++ l.shadow-iterator.rest.items;
  passed : EachPasses (prims_of l.by) (lists_of l.yielded) (lists_of l.turned.items);
}
