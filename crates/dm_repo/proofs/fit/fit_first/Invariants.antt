use Rattle.std.proofs.Common.{take}
use Rattle.dm_prim.specs.InTurn.{InTurn}
use Rattle.dm_prim.specs.Primitives.{LawfulMap}
use Rattle.dm_repo.specs.Folds.{PatchLeadsShallowly}
use Rattle.dm_repo.specs.Repositories.{IsMapOf}
use Rattle.dm_repo.proofs.fit.fit_first.Given as goal

abbrev pub invariant-loop-k : goal.invariant-loop-k
invariant-loop-k g l = (s : LawfulMap) → IsMapOf l.initial.tree s → (t : LawfulMap) × IsMapOf l.tree t × InTurn PatchLeadsShallowly (take l.k l.list) s t
