use Rattle.std.proofs.Common.{◌≡◌, false, drop, length}
use Rattle.dm_tree.specs.Files.{joined}
use Rattle.dm_tree.proofs.file_lines.FileLines.next.Given as goal

abbrev pub invariant-loop-part : goal.invariant-loop-part
invariant-loop-part g l = (drop l.self-inside.line (joined l.self-inside.parts.now) ≡ l.fn.self) × (l.self-inside.blank ≡ false)

abbrev pub decreases-loop-part : goal.decreases-loop-part
decreases-loop-part g l = length l.self-inside.parts.now
