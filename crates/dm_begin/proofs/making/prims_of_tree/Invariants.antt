use Rattle.dm_prim.specs.Prims.{prims_of}
use Rattle.dm_begin.proofs.MadeLemmas.{Made}
use Rattle.dm_begin.proofs.making.prims_of_tree.Given as goal

abbrev pub invariant-loop-row : goal.invariant-loop-row
invariant-loop-row g l = record {
  can_next : (goal.iterator-loop-row g).can_next l.row-iterator;
  is_finite : (goal.iterator-loop-row g).is_finite l.row-iterator;
  made : Made l.tree l.row-iterator.rest.items (prims_of l.prims.items);
}
