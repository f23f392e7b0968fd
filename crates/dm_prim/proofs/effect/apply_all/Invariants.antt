use Rattle.std.proofs.Common.{take}
use Rattle.dm_prim.specs.InTurn.{InTurn}
use Rattle.dm_prim.specs.Applying.{AppliesToTree}
use Rattle.dm_prim.specs.Prims.{prims_of}
use Rattle.dm_prim.proofs.effect.apply_all.Given as goal

abbrev pub invariant-loop-k : goal.invariant-loop-k
invariant-loop-k g l = InTurn AppliesToTree (take l.k (prims_of l.prims)) l.fn.tree l.tree
