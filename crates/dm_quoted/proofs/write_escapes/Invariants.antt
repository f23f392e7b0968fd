use Rattle.std.proofs.Common.{take, flat_map}
use Rattle.std.specs.Fmt.{HasWritten, IsPlainFormatter}
use Rattle.dm_quoted.specs.Quoting.{escape}
use Rattle.dm_quoted.proofs.write_escapes.Given as goal

abbrev pub invariant-loop-byte : goal.invariant-loop-byte
invariant-loop-byte g l = IsPlainFormatter l.fn.f → HasWritten g.W.Write.write_str_gives l.fn.f (flat_map escape (take l.byte-index l.bytes)) l.f
