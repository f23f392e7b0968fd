-- What a running tree refuses of what applies: a path of too many names, and a replace in a file that is too large.
use Rattle.std.specs.Prelude.{◌≡◌, ◌<◌, ◌⊎◌, ℕ, Some}
use Rattle.dm_tree.specs.Paths.{Path}
use Rattle.dm_tree.specs.Trees.{Lines, File, Map, Deep}
use Rattle.dm_tree.specs.Listings.{file_size}
use Rattle.dm_prim.specs.Primitives.{Replace, Prim, At}

-- the most bytes of a file in which tokens are replaced, before and after
abbrev pub most_turned : ℕ
most_turned = 1048576

-- the file at the path has more
abbrev pub IsLargeAt : Map → Path → Type 0
IsLargeAt m p = (ls : Lines) × (m p ≡ Some (File ls)) × (most_turned < file_size ls)

-- p is a replace in a file that is too large, before or after
abbrev pub TurnsLarge : Prim → Map → Map → Type 0
TurnsLarge (At p (Replace set old new)) m m' = IsLargeAt m p ⊎ IsLargeAt m' p
TurnsLarge p m m' = ⊥

-- p, which makes m' of m, goes past a limit: a path gets too many names, or p is a replace in a file that is too large
abbrev pub IsPastLimits : Prim → Map → Map → Type 0
IsPastLimits p m m' = Deep m' ⊎ TurnsLarge p m m'
