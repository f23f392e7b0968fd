use Rattle.std.proofs.Common.{◌≡◌, take}
use Rattle.std.specs.FinMap as finmap
use Rattle.dm_prim.specs.Primitives.{LawfulMap}
use Rattle.dm_element.specs.Standing.{LeadsWithin, StandAll}
use Rattle.dm_element.specs.Values.{elements_of}
use Rattle.dm_element.proofs.standing.find_fallen.Given as goal

abbrev pub invariant-loop-place : goal.invariant-loop-place
invariant-loop-place g l = (s : LawfulMap) → s.map ≡ finmap.get l.initial.tree → (t : LawfulMap) × (t.map ≡ finmap.get l.tree) × StandAll LeadsWithin (elements_of (take l.place l.elements)) s t
