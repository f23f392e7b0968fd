use Rattle.std.proofs.Common.{take}
use Rattle.dm_prim.specs.InTurn.{InTurn}
use Rattle.dm_prim.specs.Primitives.{LawfulMap}
use Rattle.dm_repo.specs.Folds.{PatchLeadsShallowly}
use Rattle.dm_repo.specs.Squares.{patches}
use Rattle.dm_repo.specs.Repositories.{IsMapOf}
use Rattle.dm_repo.proofs.fit.fit.Given as goal

abbrev pub invariant-loop-patch : goal.invariant-loop-patch
invariant-loop-patch g l = (s : LawfulMap) → IsMapOf l.initial.tree s → (t : LawfulMap) × IsMapOf l.tree t × InTurn PatchLeadsShallowly (patches (take l.patch-index l.list)) s t
