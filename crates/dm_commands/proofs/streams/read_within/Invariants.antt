use Rattle.std.proofs.Common.{length, ◌+◌, ◌-◌, ◌≤◌, ◌≡◌}
use Rattle.std.specs.Io.KnownBytes.{Consumes}
use Rattle.dm_commands.proofs.streams.read_within.Given as goal

abbrev pub invariant-loop-limits : goal.invariant-loop-limits
invariant-loop-limits g l = (length l.chunk ≡ 65536) × (length l.text.items ≤ l.limits.bytes + 1) × Consumes (g.R.Read.remaining l.fn.reader) (g.R.Read.remaining l.reader) l.text.items

abbrev pub decreases-loop-limits : goal.decreases-loop-limits
decreases-loop-limits g l = l.limits.bytes + 1 - length l.text.items
