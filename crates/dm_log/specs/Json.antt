-- Patches as JSON, for programs.
use Rattle.std.specs.Prelude.{◌≡◌, ◌==◌, ℕ, Bool, not, List, [], ◌∷◌, ◌++◌, codes, map, Some, if◌then◌else◌}
use Rattle.std.specs.List.{All, filter, flat_map, list_all}
use Rattle.std.specs.Str.{is_utf8}
use Rattle.serde_json.specs.Data.{Data, array, boolean, number, object, string, Members, no_members, put, unsigned}
use Rattle.serde_json.specs.Read.{read}
use Rattle.serde_json.specs.View.{items_of}
use Rattle.serde_json.specs.Written.{compact_text}
use Rattle.dm_hex.specs.Contents.{content}
use Rattle.dm_info.specs.PatchInfo.{PatchInfo}
use Rattle.dm_tree.specs.Paths.{Path}
use Rattle.dm_prim.specs.Primitives.{Prim, At, ChangePref, Move, Work, AddDir, AddFile, Binary, Hunk, Replace, RmDir, RmFile}
use Rattle.dm_named.specs.Patches.{Patch}
use Rattle.dm_named.specs.Replaces.{bracketed}
use Rattle.dm_log.specs.Shown.{digits, shown_byte}
use Rattle.dm_log.specs.Dates.{iso_date}
use Rattle.dm_log.specs.Entries.{begins}
use Rattle.dm_log.specs.Finding.{hash_text}
use Rattle.dm_log.specs.Choices.{chosen, placed_from}
use Rattle.dm_log.specs.declared.options.LogOptions.{LogOptions}

-- a text: itself if it is UTF-8, or else its bytes, escaped but for ASCII on which no terminal acts
abbrev pub readable : List ℕ → List ℕ
readable text = if is_utf8 text then text else flat_map shown_byte text

-- bytes as digits, two for each
abbrev pub in_hex : List ℕ → List ℕ
in_hex bytes = flat_map digits bytes

-- an array of what this is of each
abbrev pub array_of : {X : Type 0} → (X → Data) → List X → Data
array_of f xs = array (items_of (map f xs))

-- an array of texts
abbrev pub texts : {X : Type 0} → (X → List ℕ) → List X → Data
texts f xs = array_of (λ x. string (f x)) xs

-- the members, and under the name with `_hex` behind it the bytes, unless all is UTF-8
abbrev pub hex_beside : Bool → List ℕ → Data → Members → Members
hex_beside plain name hex ms = if plain then ms else put (name ++ codes "_hex") hex ms

-- the members, and a text under a name
abbrev pub with_text : List ℕ → List ℕ → Members → Members
with_text name text ms = hex_beside (is_utf8 text) name (string (in_hex text)) (put name (string (readable text)) ms)

-- the members, and lines under a name; in hex they stand all or none
abbrev pub with_lines : List ℕ → List (List ℕ) → Members → Members
with_lines name lines ms = hex_beside (list_all is_utf8 lines) name (texts in_hex lines) (put name (texts readable lines) ms)

-- the names of a path, each behind a slash, and a dot before them
abbrev pub dotted : Path → List ℕ
dotted p = 46 ∷ flat_map (λ n. 47 ∷ n) p

-- the kind of a change
abbrev pub of_kind : List ℕ → Members
of_kind word = put (codes "kind") (string word) no_members

-- the kind of a change and the path at which it is
abbrev pub at_path : List ℕ → Path → Members
at_path word p = with_text (codes "path") (dotted p) (of_kind word)

-- what is done at a path
abbrev pub work_members : Path → Work → Members
work_members p AddFile = at_path (codes "addfile") p
work_members p RmFile = at_path (codes "rmfile") p
work_members p AddDir = at_path (codes "adddir") p
work_members p RmDir = at_path (codes "rmdir") p
work_members p (Hunk n old new) = with_lines (codes "new") new (with_lines (codes "old") old (put (codes "line") (number (unsigned n)) (at_path (codes "hunk") p)))
work_members p (Binary old new) = put (codes "new_hex") (string (in_hex (content new))) (put (codes "old_hex") (string (in_hex (content old))) (at_path (codes "binary") p))
work_members p (Replace set old new) = with_text (codes "new") new (with_text (codes "old") old (with_text (codes "tokens") (bracketed set) (at_path (codes "replace") p)))

-- a primitive
abbrev pub change_members : Prim → Members
change_members (At p w) = work_members p w
change_members (Move p q) = with_text (codes "to") (dotted q) (at_path (codes "move") p)
change_members (ChangePref name old new) = with_text (codes "new") new (with_text (codes "old") old (with_text (codes "name") name (of_kind (codes "changepref"))))

abbrev pub change_data : Prim → Data
change_data p = object (change_members p)

-- the lines of a log, without those that only make a patch's name unlike any other
abbrev pub told : List (List ℕ) → List (List ℕ)
told lines = filter (λ line. not (begins (codes "Ignore-this: ") line)) lines

-- the parts of a patch info, its hash, and whether it is a tag
abbrev pub info_members : PatchInfo → Members
info_members i =
    put (codes "tag") (boolean (begins (codes "TAG ") i.name))
    (with_lines (codes "log") (told i.log)
    (put (codes "hash") (string (hash_text i))
    (with_text (codes "name") i.name
    (with_text (codes "date") (iso_date i.date)
    (with_text (codes "author") i.author no_members)))))

-- a patch at its place: its patch info, what it does, and the hashes of the patches that it names
abbrev pub patch_members : ℕ → Patch → Members
patch_members n p =
    put (codes "place") (number (unsigned n))
    (put (codes "depends") (texts hash_text p.deps)
    (put (codes "changes") (array_of change_data p.prims)
    (info_members p.info)))

abbrev pub patch_data : ℕ → Patch → Data
patch_data n p = object (patch_members n p)

-- the line of a patch at its place
abbrev pub json_line : (ℕ × Patch) → List ℕ
json_line placed = compact_text (patch_data placed.0 placed.1) ++ codes "\n"

-- a line for each patch that is chosen; the oldest patch is at place 1
abbrev pub json_text : LogOptions → List Patch → List ℕ
json_text o patches = flat_map json_line (chosen o (placed_from 1 patches))

-- what was written for the patch reads back as its value
abbrev pub ReadsBack : (ℕ × Patch) → Type 0
ReadsBack placed = read (compact_text (patch_data placed.0 placed.1)) ≡ Some (patch_data placed.0 placed.1)

-- each line does
abbrev pub LinesReadBack : LogOptions → List Patch → Type 0
LinesReadBack o patches = All ReadsBack (chosen o (placed_from 1 patches))
