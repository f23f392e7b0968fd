use Rattle.std.proofs.Common.{length, ◌-◌, ◌≤◌, drop}
use Rattle.dm_bundle.proofs.ContextLemmas.{ReadSoFar}
use Rattle.dm_bundle.proofs.context.context_at.Given as goal

abbrev pub invariant-loop-alloc : goal.invariant-loop-alloc
invariant-loop-alloc g l = (l.here ≤ length l.text) × ReadSoFar l.known (drop l.start l.text) l.infos.items (drop l.here l.text)

abbrev pub decreases-loop-alloc : goal.decreases-loop-alloc
decreases-loop-alloc g l = length l.text - l.here
