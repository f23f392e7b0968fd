-- The rows of a listing by a move, for clauses of private functions.
use Rattle.std.specs.Prelude.{◌≡◌, ℕ, ◌<◌, ◌≤◌, List, length, slice_get, Some}
use Rattle.dm_tree.specs.declared.listing.Listed.{Listed}
use Rattle.dm_tree.specs.Limits.{most_names}
use Rattle.dm_tree.specs.Paths.{Path, forward}

-- no path gets too many names before this place
abbrev pub AreShallowBefore : {Z : Type 0} → Path → Path → List (Listed Z) → ℕ → Type 0
AreShallowBefore {Z} from to rows place = (k : ℕ) (row : Listed Z) → k < place → slice_get rows k ≡ Some row → length (forward from to row.path) ≤ most_names

-- nor does any
abbrev pub AreShallow : {Z : Type 0} → Path → Path → List (Listed Z) → Type 0
AreShallow from to rows = AreShallowBefore from to rows (length rows)

-- this path is the first that does
pub record FirstDeep {Z : Type 0} (from to : Path) (rows : List (Listed Z)) (path : Path) : Type 0 where
  pub place : ℕ
  pub row : Listed Z
  pub at : slice_get rows place ≡ Some row
  pub is_path : path ≡ row.path
  pub is_too_deep : most_names < length (forward from to path)
  pub before : AreShallowBefore from to rows place
