-- What the patches of a repository touch at a glance. Clauses of private functions alone cite this file.
use Rattle.std.specs.Prelude.{List, [], ◌∷◌}
use Rattle.dm_prim.specs.Glances.{IsGlanceOf}
use Rattle.dm_prim.specs.declared.glance.Glance.{Glance}
use Rattle.dm_named.specs.Patches.{Patch}

-- each is the glance of the patch at its place
abbrev pub AreGlancesOf : List Patch → List Glance → Type 0
AreGlancesOf [] [] = Unit {0}
AreGlancesOf [] (g ∷ gs) = ⊥
AreGlancesOf (x ∷ xs) [] = ⊥
AreGlancesOf (x ∷ xs) (g ∷ gs) = IsGlanceOf x.prims g × AreGlancesOf xs gs
