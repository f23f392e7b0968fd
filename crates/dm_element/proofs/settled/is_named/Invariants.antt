use Rattle.std.proofs.Common.{ℕ, ◌<◌, get_or, Contains}
use Rattle.dm_element.specs.Settled.{Patch}
use Rattle.dm_element.specs.Values.{patches_of}
use Rattle.dm_element.proofs.settled.is_named.Given as goal

abbrev pub invariant-loop-patch : goal.invariant-loop-patch
invariant-loop-patch g l = (k : ℕ) → k < l.patch-index → (d : Patch) → Contains (get_or (patches_of l.patches) k d).names l.place → ⊥
