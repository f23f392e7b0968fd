-- For clauses of private functions: how lines of paths are collected.
use Rattle.std.specs.Prelude.{◌≡◌, ◌↔◌, ℕ, List, ◌++◌}
use Rattle.std.specs.List.{Contains, flat_map}
use Rattle.dm_tree.specs.Paths.{Path}
use Rattle.dm_tree.specs.Validity.{IsValidPath}
use Rattle.dm_named.specs.Canonical.{path_text}
use Rattle.dm_log.specs.Touched.{Once, path_line}

-- the paths that were found, as text, and their lines
pub record Collected : Type 0 where
  pub keys : List (List ℕ)
  pub text : List ℕ

-- that is what is collected of paths that were named
pub record Collects (named : List Path) (c : Collected) : Type 0 where
  pub paths : List Path
  pub once : Once paths
  pub members : (f : Path) → Contains paths f ↔ Contains named f
  pub keys : (f : Path) → IsValidPath f → Contains c.keys (path_text f) ↔ Contains paths f
  pub lines : c.text ≡ flat_map path_line paths

-- what was collected of any paths becomes what is collected of them and of these
abbrev pub AddsPaths : List Path → Collected → Collected → Type 0
AddsPaths more before after = (named : List Path) → Collects named before → Collects (named ++ more) after
