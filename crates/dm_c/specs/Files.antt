-- The content of a file at a path that has a given text.
use Rattle.std.specs.Prelude.{◌≡◌, ℕ, List, map, drop, Option, Some, None}
use Rattle.std.specs.FinMap as fin
use Rattle.std.specs.Global.{Global, Vec}
use Rattle.std.specs.List.{AllByRecursion}
use Rattle.dm_tree.specs.declared.listing.Listed.{Listed}
use Rattle.dm_tree.specs.Listings.{listed_entry}
use Rattle.dm_tree.specs.Paths.{Path}
use Rattle.dm_tree.specs.Trees.{Entry, File, Tree}
use Rattle.dm_named.specs.Canonical.{path_text}
use Rattle.dm_named.specs.Patches.{Patch}
use Rattle.dm_repo.specs.Repositories.{IsTreeOf}
use Rattle.dm_checkout.specs.Contents.{file_text}
use Rattle.dm_c.specs.declared.status.Status.{Status}
use Rattle.dm_c.specs.declared.status.Status.TheVariants.{Nothing}

-- the entry is a file of these bytes
abbrev pub IsFileOf : Option Entry → List ℕ → Type 0
IsFileOf (Some (File lines)) bytes = bytes ≡ file_text lines
IsFileOf other bytes = ⊥

-- the entry is no file
abbrev pub IsNoFile : Option Entry → Type 0
IsNoFile (Some (File lines)) = ⊥
IsNoFile other = Unit {0}

-- the path has this text, and a file of these bytes is there; or, for nothing, if the path has this text no file is there
abbrev pub IsContentOf : Tree → Path → List ℕ → Option (Vec ℕ) → Type 0
IsContentOf tree path text (Some bytes) = (path_text path ≡ text) × IsFileOf (fin.get tree path) bytes.items
IsContentOf tree path text None = path_text path ≡ text → IsNoFile (fin.get tree path)

-- a file of these bytes is at a path of this text
abbrev pub IsFileIn : Tree → List ℕ → List ℕ → Type 0
IsFileIn tree text bytes = (path : Path) × (path_text path ≡ text) × IsFileOf (fin.get tree path) bytes

-- no file is at the path of any of these rows that has this text
abbrev pub IsNoFileAmong : {A : Type 0} → Tree → List ℕ → List (Listed A) → Type 0
IsNoFileAmong tree text rows = AllByRecursion (λ row. path_text row.path ≡ text → IsNoFile (fin.get tree row.path)) rows

-- so it is in the tree that the patches make
abbrev pub IsFileAt : List ℕ → List Patch → List ℕ → Type 0
IsFileAt text repo bytes = (tree : Tree) × IsTreeOf repo tree × IsFileIn tree text bytes

-- no file is at a path of this text among the entries of the tree that the patches make
abbrev pub IsNoFileAt : List ℕ → List Patch → Status → Type 0
IsNoFileAt text repo why =
    (why ≡ Nothing) × ((tree : Tree) × IsTreeOf repo tree × IsNoFileAmong {A = Global} tree text (map listed_entry (drop 1 (fin.entries tree))))
