-- Where a path of a tree is written.
use Rattle.std.specs.Prelude.{◌≡◌, ◌≢◌, ◌==◌, ℕ, Bool, List, [], ◌∷◌, ◌++◌, codes}
use Rattle.std.specs.List.{AllByRecursion, flat_map, slice_split}
use Rattle.dm_tree.specs.Paths.{Name, Path}
use Rattle.dm_tree.specs.Validity.{IsValidPath}

-- the folder, and each name of the path after a slash
abbrev pub place_text : List ℕ → Path → List ℕ
place_text folder path = folder ++ flat_map (λ name. 47 ∷ name) path

-- a slash
abbrev pub is_slash : ℕ → Bool
is_slash b = b == 47

-- the name is not empty, nor `.`, nor `..`
abbrev pub IsStepDown : Name → Type 0
IsStepDown name = (name ≢ []) × (name ≢ codes ".") × (name ≢ codes "..")

-- the place begins with the folder; what follows, split at its slashes, is the names of the path behind an empty part; and each is a step down
pub record StaysInside (folder : List ℕ) (path : Path) : Type 0 where
  pub rest : List ℕ
  pub begins : place_text folder path ≡ folder ++ rest
  pub parts : slice_split is_slash rest ≡ [] ∷ path
  pub names : AllByRecursion IsStepDown path

-- that is so for every path that a tree may have
abbrev pub EachStaysInside : Type 0
EachStaysInside = (folder : List ℕ) (path : Path) → IsValidPath path → StaysInside folder path
