use Rattle.std.proofs.Common.{◌≡◌, length}
use Rattle.dm_prim.specs.Prims.{prims_of}
use Rattle.dm_prim.proofs.ListLemmas.{CommutedSome}
use Rattle.dm_prim.proofs.list.commute_lists_owned.Given as goal

abbrev pub invariant-loop-i : goal.invariant-loop-i
invariant-loop-i g l = CommutedSome (prims_of l.fn.xs.items) (prims_of l.fn.ys.items) (prims_of l.row.items) (prims_of l.moved.items) l.i × (l.i-end ≡ length l.fn.xs.items)
