use Rattle.std.proofs.Common.{take}
use Rattle.dm_log.specs.Choices.{chosen, placed_from}
use Rattle.dm_rests.specs.Rests.{IsRestsLine, LinesOf}
use Rattle.dm_rests.proofs.lines.write_rests.Given as goal

abbrev pub invariant-loop-k : goal.invariant-loop-k
invariant-loop-k l = LinesOf (IsRestsLine l.repo.patches) (take l.k (chosen l.options (placed_from 1 l.repo.patches))) l.text.items
