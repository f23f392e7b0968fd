-- What is known of a list of primitives at a glance.
use Rattle.std.specs.Prelude.{IsTrue, List, Contains}
use Rattle.std.specs.List.{All}
use Rattle.dm_tree.specs.Paths.{Path}
use Rattle.dm_prim.specs.Primitives.{Prim}
use Rattle.dm_prim.specs.Commuting.{IsValidPrim}
use Rattle.dm_prim.specs.Prims.{MovesNothing}
use Rattle.dm_prim.specs.Sketches.{Covers}
use Rattle.dm_prim.specs.Touch.{IsApartFrom, IsTouched}
use Rattle.dm_prim.specs.declared.glance.Glance.{Glance}

-- the primitives are valid; their paths are sketched; and none of them is a move, if it says so
pub record IsGlanceOf (ps : List Prim) (g : Glance) : Type 0 where
  pub valid : All IsValidPrim ps
  pub paths : List Path
  pub touched : (f : Path) → IsTouched ps f → Contains paths f
  pub covers : Covers paths g.sketch
  pub moves : IsTrue g.moves_nothing → All MovesNothing ps

-- the primitives are valid, none of them is a move, and no path that one names is, contains or is inside one of these
pub record AreAsideFrom (paths : List Path) (ps : List Prim) : Type 0 where
  pub valid : All IsValidPrim ps
  pub moves : All MovesNothing ps
  pub apart : (f : Path) → IsTouched ps f → IsApartFrom paths f
