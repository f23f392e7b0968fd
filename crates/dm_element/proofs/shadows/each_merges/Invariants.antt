use Rattle.std.proofs.Common.{ℕ, ◌<◌, List, get_or, All}
use Rattle.dm_prim.specs.Primitives.{Prim}
use Rattle.dm_element.specs.Elements.{Merge}
use Rattle.dm_element.specs.Lists.{lists_of}
use Rattle.dm_element.proofs.shadows.each_merges.Given as goal

abbrev pub invariant-loop-one : goal.invariant-loop-one
invariant-loop-one g l = (k : ℕ) → k < l.one-index → (d : List Prim) → All (λ m. Merge (get_or (lists_of l.ones) k d) m) (lists_of l.others)
