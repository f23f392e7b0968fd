use Rattle.std.proofs.Common.{ℕ, ◌<◌, List, get_or}
use Rattle.dm_prim.specs.Primitives.{Prim}
use Rattle.dm_prim.specs.Prims.{prims_of}
use Rattle.dm_element.specs.Elements.{Merge}
use Rattle.dm_element.specs.Lists.{lists_of}
use Rattle.dm_element.proofs.merge.has_reason.Given as goal

abbrev pub invariant-loop-first : goal.invariant-loop-first
invariant-loop-first g l = (k : ℕ) → k < l.first-index → (d : List Prim) → Merge (get_or (lists_of l.partners) k d) (prims_of l.own)
