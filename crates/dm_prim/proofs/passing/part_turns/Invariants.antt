use Rattle.std.proofs.Common.{take}
use Rattle.dm_tokens.specs.Sets.{in_table}
use Rattle.dm_prim.proofs.TurnedLines.{TurnSo}
use Rattle.dm_prim.proofs.passing.part_turns.Given as goal

abbrev pub invariant-loop-i : goal.invariant-loop-i
invariant-loop-i g l = TurnSo (in_table l.set) l.old l.new (take l.i l.lines) l.turned
