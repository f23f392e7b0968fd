use Rattle.std.proofs.Common.{take}
use Rattle.dm_c.specs.Files.{IsNoFileAmong}
use Rattle.dm_c.proofs.file.file_among.Given as goal

abbrev pub invariant-loop-row : goal.invariant-loop-row
invariant-loop-row l = IsNoFileAmong l.tree l.text (take l.row-index l.rows)
