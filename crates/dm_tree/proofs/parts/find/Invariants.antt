use Rattle.std.proofs.Common.{◌≡◌, ◌+◌, length, take}
use Rattle.dm_tree.specs.Files.{joined}
use Rattle.dm_tree.proofs.parts.find.Given as goal

abbrev pub invariant-loop-part : goal.invariant-loop-part
invariant-loop-part g l = l.at ≡ length (joined (take l.part l.parts)) + l.line
