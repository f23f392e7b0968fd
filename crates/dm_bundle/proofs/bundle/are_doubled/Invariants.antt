use Rattle.std.proofs.Common.{take}
use Rattle.dm_bundle.specs.Patches.{infos_of, Distinct}
use Rattle.dm_bundle.proofs.bundle.are_doubled.Given as goal

abbrev pub invariant-loop-i : goal.invariant-loop-i
invariant-loop-i g l = Distinct (infos_of (take l.i l.patches))
