use Rattle.std.proofs.Common.{◌≡◌, take}
use Rattle.dm_log.specs.Json.{told}
use Rattle.dm_log.proofs.json_lines.patch.told_lines.Given as goal

abbrev pub invariant-loop-i : goal.invariant-loop-i
invariant-loop-i g l = l.lines ≡ told (take l.i l.info.log)
