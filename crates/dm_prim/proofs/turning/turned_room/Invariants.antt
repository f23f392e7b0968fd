use Rattle.std.proofs.Common.{◌≡◌, ◌+◌, ◌++◌, length}
use Rattle.std.specs.Prelude.{sum_by}
use Rattle.dm_tree.specs.Trees.{Lines}
use Rattle.dm_tokens.specs.Sets.{in_table}
use Rattle.dm_tokens.specs.Turning.{TurnAll}
use Rattle.dm_prim.specs.Limits.{most_turned}
use Rattle.dm_prim.proofs.turning.turned_room.Given as goal

abbrev pub invariant-loop-line : goal.invariant-loop-line
invariant-loop-line g l = (done : Lines) × (done ++ l.lines ≡ l.file) ×
    ((ys : Lines) → TurnAll (in_table l.set) l.old l.new done ys → l.room + (sum_by length ys + length ys) ≡ most_turned + 1)

abbrev pub decreases-loop-line : goal.decreases-loop-line
decreases-loop-line g l = length l.lines
