use Rattle.std.proofs.Common.{◌≤◌, length, take}
use Rattle.std.specs.List.{AllByRecursion}
use Rattle.dm_bundle.proofs.limits.are_short.Given as goal

abbrev pub invariant-loop-patch : goal.invariant-loop-patch
invariant-loop-patch g l = AllByRecursion (λ p. length p.prims ≤ l.limits.prims) (take l.patch-index l.patches)
