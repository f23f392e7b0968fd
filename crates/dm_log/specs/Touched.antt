-- The paths that patches touch, as lines.
use Rattle.std.specs.Prelude.{◌≡◌, ◌↔◌, ℕ, List, [], ◌∷◌, ◌++◌, codes}
use Rattle.std.specs.List.{Contains, flat_map}
use Rattle.dm_tree.specs.Paths.{Path}
use Rattle.dm_prim.specs.Primitives.{Prim}
use Rattle.dm_prim.specs.Touch.{IsTouched}
use Rattle.dm_named.specs.Canonical.{path_text}
use Rattle.dm_named.specs.Patches.{Patch}

-- the line of a path
abbrev pub path_line : Path → List ℕ
path_line f = codes "path " ++ (path_text f ++ 10 ∷ [])

-- no path is there twice
abbrev pub Once : List Path → Type 0
Once [] = Unit {0}
Once (f ∷ fs) = (Contains fs f → ⊥) × Once fs

-- the primitives of patches
abbrev pub prims_in : List Patch → List Prim
prims_in patches = flat_map (λ p. p.prims) patches

-- the text is a line for each path that a primitive of the patches names, and no other
pub record TellsPaths (patches : List Patch) (text : List ℕ) : Type 0 where
  pub paths : List Path
  pub once : Once paths
  pub touched : (f : Path) → Contains paths f ↔ IsTouched (prims_in patches) f
  pub lines : text ≡ flat_map path_line paths
