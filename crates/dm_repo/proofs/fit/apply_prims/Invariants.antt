use Rattle.std.proofs.Common.{take}
use Rattle.dm_prim.specs.InTurn.{InTurn}
use Rattle.dm_prim.specs.Prims.{prims_of}
use Rattle.dm_prim.specs.Primitives.{LawfulMap}
use Rattle.dm_repo.specs.Folds.{LeadsShallowly}
use Rattle.dm_repo.specs.Repositories.{IsMapOf}
use Rattle.dm_repo.proofs.fit.apply_prims.Given as goal

abbrev pub invariant-loop-k : goal.invariant-loop-k
invariant-loop-k g l = (s : LawfulMap) → IsMapOf l.initial.tree s → (t : LawfulMap) × IsMapOf l.tree t × InTurn LeadsShallowly (prims_of (take l.k l.prims)) s t
