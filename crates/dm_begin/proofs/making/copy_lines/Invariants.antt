use Rattle.std.proofs.Common.{◌≡◌, ◌++◌, length}
use Rattle.dm_begin.proofs.making.copy_lines.Given as goal

abbrev pub invariant-loop-line : goal.invariant-loop-line
invariant-loop-line g l = l.copy ++ l.lines ≡ l.file

abbrev pub decreases-loop-line : goal.decreases-loop-line
decreases-loop-line g l = length l.lines
