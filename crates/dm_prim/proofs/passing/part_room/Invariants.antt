use Rattle.std.proofs.Common.{◌≡◌, ◌+◌, take, length}
use Rattle.std.specs.Prelude.{sum_by}
use Rattle.dm_tree.specs.Trees.{Lines}
use Rattle.dm_tokens.specs.Sets.{in_table}
use Rattle.dm_tokens.specs.Turning.{TurnAll}
use Rattle.dm_prim.specs.Table.{most_passed}
use Rattle.dm_prim.proofs.passing.part_room.Given as goal

abbrev pub invariant-loop-i : goal.invariant-loop-i
invariant-loop-i g l = (ys : Lines) → TurnAll (in_table l.set) l.old l.new (take l.i l.lines) ys → l.room + (sum_by length ys + length ys) ≡ most_passed
