use Rattle.std.proofs.Common.{◌≡◌, length}
use Rattle.dm_prim.specs.Prims.{prim_of, prims_of}
use Rattle.dm_prim.proofs.ListLemmas.{PassedSome}
use Rattle.dm_prim.proofs.list.pass.Given as goal

abbrev pub invariant-loop-i : goal.invariant-loop-i
invariant-loop-i g l = PassedSome (prim_of l.fn.first) (prims_of l.fn.row.items) (prims_of l.row.items) (prim_of l.first) l.i × (l.i-end ≡ length l.fn.row.items)
