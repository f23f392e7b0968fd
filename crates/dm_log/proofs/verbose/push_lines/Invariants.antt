use Rattle.std.proofs.Common.{◌≡◌, ◌==◌, ◌++◌, length}
use Rattle.std.specs.List.{flat_map, slice_split}
use Rattle.dm_log.specs.Verbose.{detail}
use Rattle.dm_log.proofs.verbose.push_lines.Given as goal

abbrev pub invariant-loop-end : goal.invariant-loop-end
invariant-loop-end g l = l.fn.out.items ++ flat_map detail (slice_split (λ b. b == 10) l.text) ≡ l.out.items ++ flat_map detail (slice_split (λ b. b == 10) l.rest)

abbrev pub decreases-loop-end : goal.decreases-loop-end
decreases-loop-end g l = length l.rest
