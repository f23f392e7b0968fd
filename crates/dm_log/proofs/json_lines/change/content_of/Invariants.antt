use Rattle.std.proofs.Common.{◌≡◌, ◌≤◌, take}
use Rattle.dm_hex.specs.Contents.{content}
use Rattle.dm_log.proofs.json_lines.change.content_of.Given as goal

abbrev pub invariant-loop-i : goal.invariant-loop-i
invariant-loop-i g l = (1 ≤ l.i) × (l.bytes.items ≡ content (take l.i l.lines))
