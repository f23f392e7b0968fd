-- What a folder has, by what it told.
use Rattle.std.specs.Prelude.{◌≡◌, ◌==◌, ◌||◌, ℕ, Bool, true, false, cond, List, [], ◌∷◌, ◌++◌, codes, length, map, Option, Some, None}
use Rattle.std.specs.List.{filter, flat_map}
use Rattle.dm_tree.specs.Paths.{Name, Path}
use Rattle.dm_tree.specs.Validity.{is_name, path_fault}
use Rattle.dm_tree.specs.declared.fault.PathFault.{PathFault}
use Rattle.dm_checkout.specs.Places.{place_text}
use Rattle.dm_folder.specs.Found.{Told}
use Rattle.dm_folder.specs.declared.fault.Refused.{Refused}
use Rattle.dm_folder.specs.declared.fault.Why.{Why}
use Rattle.dm_folder.specs.declared.fault.Why.TheVariants as why
use Rattle.dm_folder.specs.declared.found.Kind.{Kind}
use Rattle.dm_folder.specs.declared.found.Kind.TheVariants as kind
use Rattle.dm_folder.specs.declared.row.Dir.{Dir}
use Rattle.dm_folder.specs.declared.row.Dir.TheVariants as dir
use Rattle.dm_folder.specs.declared.row.Row.{Row}
use Rattle.dm_folder.specs.declared.walking.Special.{Special}
use Rattle.dm_folder.specs.declared.walking.Special.TheVariants as special

-- the path of a directory, that of the folder itself with no name
abbrev pub path_of : Dir → Path
path_of dir.Top = []
path_of (dir.In path) = path

-- what is neither a directory nor a file, where such things are skipped
abbrev pub is_skipped : Special → Kind → Bool
is_skipped special.Skip kind.Other = true
is_skipped special.Skip kind.Dir = false
is_skipped special.Skip kind.File = false
is_skipped special.Skip kind.Unknown = false
is_skipped special.Refuse k = false

-- what the tree is without: what is skipped, and what is called `_darcs` right inside the folder
abbrev pub is_left_out : Special → Path → Told → Bool
is_left_out s path found = is_skipped s found.1 || cond (length path == 0) (is_name found.0 (codes "_darcs")) false

-- why no tree may have what is of this kind, if that is so
abbrev pub kind_refusal : Kind → Option Why
kind_refusal kind.Dir = None
kind_refusal kind.File = None
kind_refusal kind.Other = Some why.NotRegular
kind_refusal kind.Unknown = Some why.NotUtf8

-- and why it may not at a path of this fault
abbrev pub refusal_at : Option PathFault → Kind → Option Why
refusal_at (Some fault) k = Some (why.Path fault)
refusal_at None k = kind_refusal k

-- why no tree may have what was found in a directory of this path: by the path, and then by what it is
abbrev pub refusal : Path → Told → Option Why
refusal path found = refusal_at (path_fault (path ++ found.0 ∷ [])) found.1

-- whether it is a directory
abbrev pub is_dir_kind : Kind → Bool
is_dir_kind kind.Dir = true
is_dir_kind kind.File = false
is_dir_kind kind.Other = false
is_dir_kind kind.Unknown = false

-- a path that the tree has, with whether it is a directory, if it isn't refused
abbrev pub row_when : Option Why → Path → Kind → List (Path × Bool)
row_when None path k = (path, is_dir_kind k) ∷ []
row_when (Some w) path k = []

-- a place that is refused, if it is
abbrev pub refused_when : Option Why → List ℕ → List (List ℕ × Why)
refused_when None place = []
refused_when (Some w) place = (place, w) ∷ []

-- the place of a name in the directory at a place
abbrev pub name_place : List ℕ → Name → List ℕ
name_place place name = (place ++ 47 ∷ []) ++ name

-- what the tree has of what was found in a directory
abbrev pub row_of : Special → Path → Told → List (Path × Bool)
row_of s path found = cond (is_left_out s path found) [] (row_when (refusal path found) (path ++ found.0 ∷ []) found.1)

-- what of it is refused
abbrev pub refused_of : Special → List ℕ → Path → Told → List (List ℕ × Why)
refused_of s place path found = cond (is_left_out s path found) [] (refused_when (refusal path found) (name_place place found.0))

-- the path of a directory, and what was told to be right inside it
abbrev pub Listing : Type 0
Listing = Path × List Told

-- what the tree has of a listing
abbrev pub rows_of_listing : Special → Listing → List (Path × Bool)
rows_of_listing s l = flat_map (row_of s l.0) l.1

-- what of a listing is refused
abbrev pub refused_of_listing : Special → List ℕ → Listing → List (List ℕ × Why)
refused_of_listing s top l = flat_map (refused_of s (place_text top l.0) l.0) l.1

-- the paths of the directories
abbrev pub dirs : List (Path × Bool) → List Path
dirs rows = map (λ row. row.0) (filter (λ row. row.1) rows)

-- each listing is what was told of its place
abbrev pub AreTold : (List ℕ → List Told → Type 0) → List ℕ → List Listing → Type 0
AreTold lists top [] = Unit {0}
AreTold lists top (l ∷ ls) = lists (place_text top l.0) l.1 × AreTold lists top ls

-- the folder was listed, and then each directory of the walked rows, in their order; the rows are all that the tree has of the listings, and the refused all that is refused
pub record IsWalk (lists : List ℕ → List Told → Type 0) (s : Special) (top : List ℕ) (walked rows : List (Path × Bool)) (refused : List (List ℕ × Why)) : Type 0 where
  pub listings : List Listing
  pub are_told : AreTold lists top listings
  pub in_turn : map (λ l. l.0) listings ≡ [] ∷ dirs walked
  pub rows_are : rows ≡ flat_map (rows_of_listing s) listings
  pub refused_are : refused ≡ flat_map (refused_of_listing s top) listings

-- the rows of the code
abbrev pub rows_in : List Row → List (Path × Bool)
rows_in rows = map (λ row. (row.path, row.is_dir)) rows

-- what the code tells as refused
abbrev pub refused_in : List Refused → List (List ℕ × Why)
refused_in list = map (λ one. (one.place.bytes.items, one.why)) list
