use Rattle.std.proofs.Common.{◌≡◌, map, take}
use Rattle.std.specs.FinMap as finmap
use Rattle.dm_prim.specs.InTurn.{InTurn}
use Rattle.dm_prim.specs.Prims.{prim_of}
use Rattle.dm_prim.specs.Primitives.{LawfulMap}
use Rattle.dm_element.specs.Standing.{LeadsWithin}
use Rattle.dm_element.proofs.standing.lead_all.Given as goal

abbrev pub invariant-loop-k : goal.invariant-loop-k
invariant-loop-k g l = (s : LawfulMap) → s.map ≡ finmap.get l.initial.tree → (t : LawfulMap) × (t.map ≡ finmap.get l.tree) × InTurn LeadsWithin (map prim_of (take l.k l.prims)) s t
