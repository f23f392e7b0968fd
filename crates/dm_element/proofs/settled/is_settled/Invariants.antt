use Rattle.std.proofs.Common.{ℕ, ◌<◌}
use Rattle.dm_element.specs.Values.{elements_of, patches_of}
use Rattle.dm_element.proofs.SettledLemmas.{IsHeldAt}
use Rattle.dm_element.proofs.settled.is_settled.Given as goal

abbrev pub invariant-loop-at : goal.invariant-loop-at
invariant-loop-at g l = (k : ℕ) → k < l.at → IsHeldAt (elements_of l.patch.elements.now) (patches_of l.later) k
