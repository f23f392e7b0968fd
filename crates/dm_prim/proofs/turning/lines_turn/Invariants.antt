use Rattle.std.proofs.Common.{◌≡◌, ◌++◌, length}
use Rattle.dm_tree.specs.Trees.{Lines}
use Rattle.dm_tokens.specs.Sets.{in_table}
use Rattle.dm_prim.proofs.TurnedLines.{TurnSo}
use Rattle.dm_prim.proofs.turning.lines_turn.Given as goal

abbrev pub invariant-loop-line : goal.invariant-loop-line
invariant-loop-line g l = (done : Lines) × (done ++ l.lines ≡ l.file) × TurnSo (in_table l.set) l.old l.new done l.turned

abbrev pub decreases-loop-line : goal.decreases-loop-line
decreases-loop-line g l = length l.lines
