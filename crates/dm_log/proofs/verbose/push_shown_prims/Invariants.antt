use Rattle.std.proofs.Common.{◌≡◌, ◌++◌, take}
use Rattle.std.specs.List.{flat_map}
use Rattle.dm_prim.specs.Prims.{prims_of}
use Rattle.dm_log.specs.Verbose.{prim_shown}
use Rattle.dm_log.proofs.verbose.push_shown_prims.Given as goal

abbrev pub invariant-loop-prim : goal.invariant-loop-prim
invariant-loop-prim g l = l.out.items ≡ l.fn.out.items ++ flat_map prim_shown (take l.prim-index (prims_of l.prims))
