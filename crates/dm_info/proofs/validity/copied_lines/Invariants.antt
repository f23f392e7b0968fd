use Rattle.std.proofs.Common.{◌≡◌, map, take}
use Rattle.dm_info.proofs.validity.copied_lines.Given as goal

abbrev pub invariant-loop-line : goal.invariant-loop-line
invariant-loop-line g l = map (λ copy. copy.items) l.copies.items ≡ map (λ line. line.items) (take l.line-index l.lines)
