use Rattle.std.proofs.Common.{ℕ, ◌<◌}
use Rattle.dm_element.specs.Values.{patches_of}
use Rattle.dm_element.proofs.SettledLemmas.{IsSettledAt}
use Rattle.dm_element.proofs.settled.find_unsettled.Given as goal

abbrev pub invariant-loop-place : goal.invariant-loop-place
invariant-loop-place g l = (k : ℕ) → k < l.place → IsSettledAt (patches_of l.patches) k
