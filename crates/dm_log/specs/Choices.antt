-- Which entries of a log are shown, and how.
use Rattle.std.specs.Prelude.{ℕ, ◌+◌, ◌-◌, min, Bool, List, [], ◌∷◌, ◌++◌, codes, length, drop, reverse, Option, Some, None, if◌then◌else◌}
use Rattle.std.specs.List.{join_by}
use Rattle.dm_named.specs.Patches.{Patch}
use Rattle.dm_log.specs.Entries.{entry_text}
use Rattle.std.specs.Fmt.{decimal}
use Rattle.dm_log.specs.Verbose.{details, patch_shown}
use Rattle.dm_log.specs.declared.options.LogOptions.{LogOptions}

-- how many of so many are shown
abbrev pub count_of : Option ℕ → ℕ → ℕ
count_of None all = all
count_of (Some most) all = min most all

-- where what is shown at a place stands among all
abbrev pub place_of : Bool → ℕ → ℕ → ℕ → ℕ
place_of backwards all count k = if backwards then all - 1 - k else all - count + k

-- the newest so many
abbrev pub newest : {X : Type 0} → ℕ → List X → List X
newest n all = drop (length all - n) all

-- those that are shown, in their order
abbrev pub chosen : {X : Type 0} → LogOptions → List X → List X
chosen o all = if o.reverse then reverse (newest (count_of o.last (length all)) all) else newest (count_of o.last (length all)) all

-- each patch with its place, counted from this one
abbrev pub placed_from : ℕ → List Patch → List (ℕ × Patch)
placed_from n [] = []
placed_from n (p ∷ ps) = (n, p) ∷ placed_from (n + 1) ps

-- a place, on a line of its own, if it is shown
abbrev pub place_shown : Bool → ℕ → List ℕ
place_shown places n = if places then codes "#" ++ (decimal n ++ codes "\n") else []

-- what a patch does, behind an empty line, if it is shown
abbrev pub long_shown : Bool → Patch → List ℕ
long_shown verbose p = if verbose then codes "\n" ++ details (patch_shown p) else []

-- the entry of a patch at its place
abbrev pub long_entry : LogOptions → (ℕ × Patch) → List ℕ
long_entry o placed = place_shown o.places placed.0 ++ (entry_text placed.1.info ++ long_shown o.verbose placed.1)

-- the chosen entries, with an empty line between each two; the oldest patch is at place 1
abbrev pub entries_text : LogOptions → List Patch → List ℕ
entries_text o patches = join_by (long_entry o) (codes "\n") (chosen o (placed_from 1 patches))
