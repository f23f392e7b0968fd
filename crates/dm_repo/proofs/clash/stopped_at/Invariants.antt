use Rattle.std.proofs.Common.{List, map, drop}
use Rattle.dm_prim.specs.Commuting.{ListsCommute}
use Rattle.dm_prim.specs.Primitives.{Prim}
use Rattle.dm_prim.specs.Prims.{prim_of, prims_of}
use Rattle.dm_repo.proofs.clash.stopped_at.Given as goal

abbrev pub invariant-loop-k : goal.invariant-loop-k
invariant-loop-k g l = (xs : List Prim) × ListsCommute (map prim_of (drop l.k l.prims)) l.second.prims (prims_of l.row.items) xs
