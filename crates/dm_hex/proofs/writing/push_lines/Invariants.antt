use Rattle.std.proofs.Common.{◌≡◌, ◌++◌, map}
use Rattle.std.specs.List.{flat_map, range_with_len}
use Rattle.dm_hex.specs.Digits.{star_line, star_text}
use Rattle.dm_hex.proofs.writing.push_lines.Given as goal

abbrev pub invariant-loop-k : goal.invariant-loop-k
invariant-loop-k g l = l.out.items ≡ l.fn.out.items ++ flat_map star_text (map (star_line l.bytes) (range_with_len 0 l.k))
