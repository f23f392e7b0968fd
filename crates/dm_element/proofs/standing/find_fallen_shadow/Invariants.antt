use Rattle.std.proofs.Common.{◌≡◌, All, take}
use Rattle.std.specs.FinMap as finmap
use Rattle.dm_prim.specs.Primitives.{LawfulMap}
use Rattle.dm_element.specs.Lists.{lists_of}
use Rattle.dm_element.specs.Standing.{LeadsWithin, Stands}
use Rattle.dm_element.proofs.standing.find_fallen_shadow.Given as goal

abbrev pub invariant-loop-place : goal.invariant-loop-place
invariant-loop-place g l = (s : LawfulMap) → s.map ≡ finmap.get l.tree → All (λ m. Stands LeadsWithin m s) (lists_of (take l.place l.shadows))
