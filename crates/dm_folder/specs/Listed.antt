-- What the system told of a folder, by its answers.
use Rattle.std.specs.Prelude.{◌≡◌, ◌==◌, ◌||◌, ℕ, Bool, not, if◌then◌else◌, List, [], ◌∷◌, ◌++◌, codes, map, filter, bit_and}
use Rattle.std.specs.List.{slice_split}
use Rattle.std.specs.List.Sorted.{IsPermutation}
use Rattle.std.specs.Str.{IsUtf8}
use Rattle.dm_tree.specs.Paths.{Name}
use Rattle.dm_tree.specs.Validity.{is_name}
use Rattle.dm_folder.specs.Found.{Told}
use Rattle.dm_folder.specs.Walks.{name_place}
use Rattle.dm_folder.specs.Events.{Event, stood, began, gave, ended, opened, held}
use Rattle.dm_folder.specs.declared.found.Kind.{Kind}
use Rattle.dm_folder.specs.declared.found.Kind.TheVariants as kind

-- what has this mode, by the bits that the system keeps for it: a symbolic link is neither a directory nor a file
abbrev pub kind_of_mode : ℕ → Kind
kind_of_mode mode = if bit_and mode 0o170000 == 0o040000 then kind.Dir else if bit_and mode 0o170000 == 0o100000 then kind.File else kind.Other

-- a zero byte
abbrev pub is_zero : ℕ → Bool
is_zero b = b == 0

-- it is a name, and not the directory itself or the one above it
abbrev pub is_listed : Name → Bool
is_listed name = not (is_name name [] || (is_name name (codes ".") || is_name name (codes "..")))

-- the names in the bytes of a directory, where a zero byte ends each
abbrev pub names_in : List ℕ → List Name
names_in bytes = filter is_listed (slice_split is_zero bytes)

-- the directory at the place was opened on top of these events, and has given these bytes since
pub data IsReading (place : List ℕ) (earlier : List Event) : List Event → List ℕ → Type 0 where
  Began : IsReading place earlier (began place ∷ earlier) []
  Gave : (events : List Event) (before bytes : List ℕ) → IsReading place earlier events before → IsReading place earlier (gave bytes ∷ events) (before ++ bytes)

-- on top of these events each of the names was asked for in the directory at the place, but for those that aren't UTF-8
pub data IsAsked (place : List ℕ) (earlier : List Event) : List Event → List Told → Type 0 where
  NoneYet : IsAsked place earlier earlier []
  Known : (events : List Event) (found : List Told) (name : Name) (mode : ℕ) → IsAsked place earlier events found → IsUtf8 name
      → IsAsked place earlier (stood (name_place place name) mode ∷ events) (found ++ (name, kind_of_mode mode) ∷ [])
  Unknown : (events : List Event) (found : List Told) (name : Name) → IsAsked place earlier events found → ¬ (IsUtf8 name)
      → IsAsked place earlier events (found ++ (name, kind.Unknown) ∷ [])

-- a directory stood at the place, was read to its end, had these names and no others, each as often, was asked for each, and stood there still
pub record IsListed (events : List Event) (place : List ℕ) (found : List Told) : Type 0 where
  pub earlier : List Event
  pub read : List Event
  pub asked : List Event
  pub later : List Event
  pub first : ℕ
  pub last : ℕ
  pub bytes : List ℕ
  pub was_dir : kind_of_mode first ≡ kind.Dir
  pub is_read : IsReading place (stood place first ∷ earlier) read bytes
  pub is_asked : IsAsked place (ended ∷ read) asked found
  pub is_dir : kind_of_mode last ≡ kind.Dir
  pub events_are : events ≡ later ++ stood place last ∷ asked
  pub names_are : IsPermutation (names_in bytes) (map (λ one. one.0) found)

-- a file stood at the place, was opened and read to its end, and gave these bytes
pub record IsHeldBy (events : List Event) (place bytes : List ℕ) : Type 0 where
  pub earlier : List Event
  pub later : List Event
  pub mode : ℕ
  pub was_file : kind_of_mode mode ≡ kind.File
  pub events_are : events ≡ later ++ held bytes ∷ (opened place ∷ (stood place mode ∷ earlier))
