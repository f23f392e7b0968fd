use Rattle.std.proofs.Common.{take}
use Rattle.dm_tokens.specs.Sets.{in_table}
use Rattle.dm_tokens.specs.Turning.{TurnAll}
use Rattle.dm_prim.proofs.passing.turn_each_of.Given as goal

abbrev pub invariant-loop-i : goal.invariant-loop-i
invariant-loop-i g l = TurnAll (in_table l.set) l.old l.new (take l.i l.lines) l.turned
