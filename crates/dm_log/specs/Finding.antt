-- Which patches a word of the command line names.
use Rattle.std.specs.Prelude.{◌≡◌, ◌⊎◌, ◌<◌, ◌≤◌, ℕ, ◌+◌, nat_lt, Bool, true, false, ◌&&◌, List, ◌∷◌, ◌++◌, codes, length, drop, slice_get, Some}
use Rattle.std.specs.List.{flat_map, list_all}
use Rattle.std.specs.Char.{is_ascii_digit}
use Rattle.std.specs.Fmt.{decimal}
use Rattle.dm_info.specs.PatchInfo.{PatchInfo}
use Rattle.dm_log.specs.Entries.{begins, patch_hash}
use Rattle.dm_log.specs.Shown.{digits}
use Rattle.dm_log.specs.declared.finding.Found.{Found}
use Rattle.dm_log.specs.declared.finding.Found.TheVariants.{Nothing, One, Several}

-- the hash by which Darcs names a patch, in digits
abbrev pub hash_text : PatchInfo → List ℕ
hash_text i = flat_map digits (patch_hash i)

-- these are at least the first seven digits of the patch's hash
abbrev pub BeginsHash : List ℕ → PatchInfo → Type 0
BeginsHash digits i = (7 ≤ length digits) × (begins digits (hash_text i) ≡ true)

-- the word is what begins the patch's hash, a space, and its name
abbrev pub IsHashAndName : List ℕ → PatchInfo → Type 0
IsHashAndName word i = (front : List ℕ) × BeginsHash front i × (word ≡ front ++ 32 ∷ i.name)

-- the word is the patch's name, or begins its hash, or is both
abbrev pub Names : List ℕ → PatchInfo → Type 0
Names word i = (word ≡ i.name) ⊎ (BeginsHash word i ⊎ IsHashAndName word i)

-- the word is a hash mark and digits
abbrev pub is_place : List ℕ → Bool
is_place word = begins (codes "#") word && (nat_lt 1 (length word) && list_all is_ascii_digit (drop 1 word))

-- the place, as a log prints it
abbrev pub place_text : ℕ → List ℕ
place_text n = codes "#" ++ decimal n

-- the word names the patch of this place, counted from 1: as a place that alone, as any other word by name and hash
abbrev pub NamesHere : List ℕ → ℕ → PatchInfo → Type 0
NamesHere word n i = ((is_place word ≡ true) × (word ≡ place_text n)) ⊎ ((is_place word ≡ false) × Names word i)

-- the word names the patch that stands at this place, counted from 0
abbrev pub NamesAt : List PatchInfo → List ℕ → ℕ → Type 0
NamesAt infos word k = (i : PatchInfo) × (slice_get infos k ≡ Some i) × NamesHere word (k + 1) i

-- the word names none of them; or one alone, which stands at this place; or at least the two at these places, the first of those that it names
abbrev pub Finds : List PatchInfo → List ℕ → Found → Type 0
Finds infos word Nothing = (k : ℕ) → NamesAt infos word k → ⊥
Finds infos word (One k) = NamesAt infos word k × ((j : ℕ) → NamesAt infos word j → j ≡ k)
Finds infos word (Several j k) = NamesAt infos word j × NamesAt infos word k × (j < k) ×
    ((h : ℕ) → h < k → NamesAt infos word h → h ≡ j)

-- for a clause of a private function: what was found, with the patch at the next place, which the word names or not
abbrev pub found_with : Found → ℕ → Bool → Found
found_with found k false = found
found_with Nothing k true = One k
found_with (One j) k true = Several j k
found_with (Several i j) k true = Several i j
