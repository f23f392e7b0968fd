use Rattle.std.proofs.Common.{map, drop}
use Rattle.std.specs.Prelude.{◌↔◌}
use Rattle.dm_info.specs.PatchInfo.{AreLines}
use Rattle.dm_info.proofs.validity.are_lines.Given as goal

abbrev pub invariant-loop-line : goal.invariant-loop-line
invariant-loop-line l = AreLines (map (λ line. line.now) (drop l.line-index l.lines)) ↔ AreLines (map (λ line. line.now) l.lines)
