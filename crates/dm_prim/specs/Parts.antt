-- What a primitive does to a part of a map: to what some paths reach.
use Rattle.std.specs.Prelude.{◌≡◌, List}
use Rattle.std.specs.List.{All}
use Rattle.dm_tree.specs.Paths.{Path}
use Rattle.dm_tree.specs.Trees.{Map}
use Rattle.dm_tree.specs.Reach.{IsReached, IsUnder}
use Rattle.dm_prim.specs.Primitives.{Prim}
use Rattle.dm_prim.specs.Touch.{paths_of}

-- all that the primitive names is at or under these paths
pub record NamesUnder (ps : List Path) (p : Prim) : Type 0 where
  pub each : All (IsUnder ps) (paths_of p)

-- s and t are the same where these paths don't reach
pub record IsSameOutside (ps : List Path) (s t : Map) : Type 0 where
  pub outside : (q : Path) → (IsReached ps q → ⊥) → t q ≡ s q

-- t is s but at and under these paths
pub record IsSameBut (ps : List Path) (s t : Map) : Type 0 where
  pub kept : (q : Path) → (IsUnder ps q → ⊥) → t q ≡ s q
