-- Folders that git takes for a repository of its own, whose settings name commands, and what isn't written by default.
use Rattle.std.specs.Prelude.{◌≡◌, ℕ, ◌-◌, Bool, ◌&&◌, ◌||◌, List, [], ◌∷◌, ◌++◌, codes, length, take, slice_index_or, Option, Some, None, if◌then◌else◌}
use Rattle.std.specs.List.{flat_map, list_any}
use Rattle.std.specs.Str.Lossy.{utf8_lossy}
use Rattle.std.specs.BTreeSet.{contains_text}
use Rattle.std.specs.Str.{bytes_eq}
use Rattle.dm_tree.specs.Paths.{Path}
use Rattle.dm_checkout.specs.Places.{place_text}
use Rattle.dm_checkout.specs.Seen.{is_taken_for, seen}
use Rattle.dm_checkout.specs.Names.{has_obeyed}
use Rattle.dm_checkout.specs.declared.repositories.Parts.{Parts}
use Rattle.dm_checkout.specs.declared.fault.Why.{Why}
use Rattle.dm_checkout.specs.declared.fault.Why.TheVariants.{Obeyed, Repository}

-- the folder that the path lies right inside, as a text
abbrev pub folder_text : Path → List ℕ
folder_text path = utf8_lossy (place_text [] (take (length path - 1) path))

-- the last name of the path is taken for the word
abbrev pub is_called : List ℕ → Path → Bool
is_called word path = is_taken_for word (seen (slice_index_or path (length path - 1) []))

-- one of the paths is called so, and lies right inside the folder
abbrev pub has_inside : List ℕ → List Path → List ℕ → Bool
has_inside word paths folder = list_any (λ path. is_called word path && bytes_eq (folder_text path) folder) paths

-- the path is the `HEAD` of what git takes for a repository: beside it stand `objects` and `refs`, or `commondir`, which says where those are
abbrev pub is_head : List Path → Path → Bool
is_head paths path =
    is_called (codes "head") path
    && (has_inside (codes "commondir") paths (folder_text path) || (has_inside (codes "objects") paths (folder_text path) && has_inside (codes "refs") paths (folder_text path)))

-- the sets have the folders in which one of the paths is called so
abbrev pub AreParts : List Path → Parts → Type 0
AreParts paths parts =
    ((folder : List ℕ) → contains_text parts.objects folder ≡ has_inside (codes "objects") paths folder)
    × ((folder : List ℕ) → contains_text parts.refs folder ≡ has_inside (codes "refs") paths folder)
    × ((folder : List ℕ) → contains_text parts.common_dirs folder ≡ has_inside (codes "commondir") paths folder)

-- why a path of these isn't written by default, if it isn't
abbrev pub why_unsafe : List Path → Path → Option Why
why_unsafe paths path = if has_obeyed path then Some Obeyed else if is_head paths path then Some Repository else None

-- the sets have the folder as one with `commondir`, or with `objects` and `refs`
abbrev pub has_beside : Parts → List ℕ → Bool
has_beside parts folder = contains_text parts.common_dirs folder || (contains_text parts.objects folder && contains_text parts.refs folder)

-- whether the path is such a `HEAD` among the paths whose folders these are
abbrev pub TellsHead : Parts → Path → Bool → Type 0
TellsHead parts path is = (paths : List Path) → AreParts paths parts → is ≡ is_head paths path

-- and why it isn't written by default
abbrev pub TellsWhy : Parts → Path → Option Why → Type 0
TellsWhy parts path why = (paths : List Path) → AreParts paths parts → why ≡ why_unsafe paths path

-- a place that is refused, if it is
abbrev pub refused_when : Option Why → List ℕ → List (List ℕ × Why)
refused_when None place = []
refused_when (Some why) place = (place, why) ∷ []

-- what isn't written of some paths of a tree that has all these, in their order
abbrev pub refused_among : List Path → List Path → List (List ℕ × Why)
refused_among all paths = flat_map (λ path. refused_when (why_unsafe all path) (place_text [] path)) paths

-- what isn't written of a tree of these paths
abbrev pub refused : List Path → List (List ℕ × Why)
refused paths = refused_among paths paths

-- what is told grew by the path, if it isn't written
abbrev pub TellsMore : Parts → Path → List (List ℕ × Why) → List (List ℕ × Why) → Type 0
TellsMore parts path old new = (paths : List Path) → AreParts paths parts → new ≡ old ++ refused_when (why_unsafe paths path) (place_text [] path)
