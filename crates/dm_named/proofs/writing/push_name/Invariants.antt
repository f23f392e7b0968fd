use Rattle.std.proofs.Common.{◌≡◌, ◌++◌, ◌∷◌, take}
use Rattle.std.specs.List.{flat_map}
use Rattle.dm_named.specs.Canonical.{byte_text}
use Rattle.dm_named.proofs.writing.push_name.Given as goal

abbrev pub invariant-loop-byte : goal.invariant-loop-byte
invariant-loop-byte g l = l.out.items ≡ l.fn.out.items ++ 47 ∷ flat_map byte_text (take l.byte-index l.name)
