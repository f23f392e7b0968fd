-- Which patches of a mirror the words of a command choose.
use Rattle.std.specs.Prelude.{◌≡◌, ◌≢◌, ℕ, List, [], ◌∷◌, ◌++◌, slice_get, Some}
use Rattle.dm_info.specs.PatchInfo.{PatchInfo}
use Rattle.dm_log.specs.Finding.{Finds}
use Rattle.dm_log.specs.declared.finding.Found.{Found}
use Rattle.dm_log.specs.declared.finding.Found.TheVariants.{One}

-- each word names one patch alone, and these are their names
pub data Chooses (infos : List PatchInfo) : List (List ℕ) → List PatchInfo → Type 0 where
  nothing : Chooses infos [] []
  one_more : (word : List ℕ) (words : List (List ℕ)) (name : PatchInfo) (names : List PatchInfo) (place : ℕ) → Chooses infos words names →
      Finds infos word (One place) → slice_get infos place ≡ Some name → Chooses infos (words ++ word ∷ []) (names ++ name ∷ [])

-- the word doesn't name one patch alone: this is found
abbrev pub ChoiceFails : List PatchInfo → List ℕ → Found → Type 0
ChoiceFails infos word found = Finds infos word found × ((place : ℕ) → found ≢ One place)
