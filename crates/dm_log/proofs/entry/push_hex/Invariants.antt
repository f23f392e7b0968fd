use Rattle.std.proofs.Common.{◌≡◌, ◌++◌, take}
use Rattle.std.specs.List.{flat_map}
use Rattle.dm_log.specs.Shown.{digits}
use Rattle.dm_log.proofs.entry.push_hex.Given as goal

abbrev pub invariant-loop-byte : goal.invariant-loop-byte
invariant-loop-byte g l = l.out.items ≡ l.fn.out.items ++ flat_map digits (take l.byte-index l.bytes)
