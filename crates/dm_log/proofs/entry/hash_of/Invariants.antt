use Rattle.std.proofs.Common.{◌++◌, take}
use Rattle.std.specs.List.{concat}
use Rattle.sha1.specs.Sha1.{Holds}
use Rattle.dm_log.proofs.entry.hash_of.Given as goal

abbrev pub invariant-loop-i : goal.invariant-loop-i
invariant-loop-i g l = Holds l.hasher (((l.info.name ++ l.info.author) ++ l.info.date) ++ concat (take l.i l.info.log))
