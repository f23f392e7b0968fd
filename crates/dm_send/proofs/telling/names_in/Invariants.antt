use Rattle.std.proofs.Common.{◌≡◌, ◌++◌, take}
use Rattle.dm_bundle.specs.Patches.{infos_of}
use Rattle.dm_send.proofs.telling.names_in.Given as goal

abbrev pub invariant-loop-name : goal.invariant-loop-name
invariant-loop-name g l = l.names.items ≡ infos_of l.bundle.patches ++ take l.name-index l.bundle.context
