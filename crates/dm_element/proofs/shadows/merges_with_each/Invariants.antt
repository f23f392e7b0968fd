use Rattle.std.proofs.Common.{ℕ, ◌<◌, List, get_or}
use Rattle.dm_prim.specs.Primitives.{Prim}
use Rattle.dm_prim.specs.Prims.{prims_of}
use Rattle.dm_element.specs.Elements.{Merge}
use Rattle.dm_element.specs.Lists.{lists_of}
use Rattle.dm_element.proofs.shadows.merges_with_each.Given as goal

abbrev pub invariant-loop-other : goal.invariant-loop-other
invariant-loop-other g l = (k : ℕ) → k < l.other-index → (d : List Prim) → Merge (prims_of l.one) (get_or (lists_of l.others) k d)
