use Rattle.std.proofs.Common.{◌≡◌, ◌+◌, length}
use Rattle.dm_tokens.specs.Sets.{in_table}
use Rattle.dm_tokens.specs.Walks.{turned}
use Rattle.dm_tokens.proofs.turning.room_after.Given as goal

abbrev pub invariant-loop-rest : goal.invariant-loop-rest
invariant-loop-rest l =
    l.left + length (turned (in_table l.set) l.old l.new l.text) ≡ l.room + length (turned (in_table l.set) l.old l.new l.rest)

abbrev pub decreases-loop-rest : goal.decreases-loop-rest
decreases-loop-rest l = length l.rest
