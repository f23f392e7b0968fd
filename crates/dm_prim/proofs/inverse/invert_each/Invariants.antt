use Rattle.std.proofs.Common.{◌≡◌, length}
use Rattle.dm_prim.specs.Prims.{prims_of}
use Rattle.dm_prim.proofs.ListLemmas.{InvertedSome}
use Rattle.dm_prim.proofs.inverse.invert_each.Given as goal

abbrev pub invariant-loop-i : goal.invariant-loop-i
invariant-loop-i g l = InvertedSome (prims_of l.fn.prims.items) (prims_of l.queue.items) l.i × (l.i-end ≡ length l.fn.prims.items)
