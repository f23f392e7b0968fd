-- What is printed: a line for each entry of a tree.
use Rattle.std.specs.Prelude.{ℕ, List, [], ◌∷◌, ◌++◌, codes, drop}
use Rattle.std.specs.List.{flat_map}
use Rattle.std.specs.Fmt.{decimal}
use Rattle.std.specs.FinMap as map
use Rattle.dm_tree.specs.Paths.{Path}
use Rattle.dm_tree.specs.Trees.{Tree}
use Rattle.dm_tree.specs.Listings.{kind_of}
use Rattle.dm_tree.specs.declared.listing.Kind.{Kind}
use Rattle.dm_tree.specs.declared.listing.Kind.TheVariants.{Dir, File}
use Rattle.dm_named.specs.Canonical.{path_text}

-- a text and a newline
abbrev pub line_of : List ℕ → List ℕ
line_of text = text ++ 10 ∷ []

-- an entry: a directory, or a file with its size in bytes
abbrev pub entry_text : Path → Kind → List ℕ
entry_text p Dir = codes "dir " ++ path_text p
entry_text p (File bytes) = codes "file " ++ (path_text p ++ 32 ∷ decimal bytes)

-- a line for each entry of a tree but its root, a directory before what is inside it
abbrev pub listing_text : Tree → List ℕ
listing_text t = flat_map (λ row. line_of (entry_text row.0 (kind_of row.1))) (drop 1 (map.entries t))
