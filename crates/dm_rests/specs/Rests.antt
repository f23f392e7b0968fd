-- Which patches rest on which, as JSON.
use Rattle.std.specs.Prelude.{◌≡◌, ℕ, List, [], ◌∷◌, ◌++◌, codes, Some}
use Rattle.serde_json.specs.Data.{object, Members, put}
use Rattle.serde_json.specs.Read.{read}
use Rattle.serde_json.specs.Written.{compact_text}
use Rattle.dm_info.specs.PatchInfo.{PatchInfo}
use Rattle.dm_named.specs.Patches.{Patch}
use Rattle.dm_send.specs.Leaving.{Leaves}
use Rattle.dm_log.specs.Choices.{chosen, placed_from}
use Rattle.dm_log.specs.Finding.{hash_text}
use Rattle.dm_log.specs.Json.{patch_members, texts}
use Rattle.dm_log.specs.declared.options.LogOptions.{LogOptions}

-- `Directly info pairs names`: these are the first names of the pairs whose second one is `info`, in their order
pub data Directly (info : PatchInfo) : List (PatchInfo × PatchInfo) → List PatchInfo → Type 0 where
  nothing : Directly info [] []
  one : (pairs : List (PatchInfo × PatchInfo)) (names : List PatchInfo) (p : PatchInfo × PatchInfo) → Directly info pairs names → p.1 ≡ info → Directly info (pairs ++ p ∷ []) (names ++ p.0 ∷ [])
  another : (pairs : List (PatchInfo × PatchInfo)) (names : List PatchInfo) (p : PatchInfo × PatchInfo) → Directly info pairs names → (p.1 ≡ info → ⊥) → Directly info (pairs ++ p ∷ []) names

-- These rest on the patch of this name: if it goes they have to go too, and of what goes it is the nearest that stops them.
pub record RestOn (repo : List Patch) (info : PatchInfo) (names : List PatchInfo) : Type 0 where
  pub stay : List Patch
  pub go : List Patch
  pub bound : List (PatchInfo × PatchInfo)
  pub leaves : Leaves (info ∷ []) repo stay go bound
  pub directly : Directly info bound names

-- a patch at its place, and the hashes of those that rest on it
abbrev pub with_rests : ℕ → Patch → List PatchInfo → Members
with_rests n p names = put (codes "needed_by") (texts hash_text names) (patch_members n p)

-- the line of a patch of a repository
pub record IsRestsLine (repo : List Patch) (placed : ℕ × Patch) (line : List ℕ) : Type 0 where
  pub names : List PatchInfo
  pub rest : RestOn repo placed.1.info names
  pub text : line ≡ compact_text (object (with_rests placed.0 placed.1 names)) ++ codes "\n"
  pub reads_back : read (compact_text (object (with_rests placed.0 placed.1 names))) ≡ Some (object (with_rests placed.0 placed.1 names))

-- a line for each of these, one after the other
pub data LinesOf (IsLine : (ℕ × Patch) → List ℕ → Type 0) : List (ℕ × Patch) → List ℕ → Type 0 where
  nothing : LinesOf IsLine [] []
  more : (ps : List (ℕ × Patch)) (text : List ℕ) (p : ℕ × Patch) (line : List ℕ) → LinesOf IsLine ps text → IsLine p line → LinesOf IsLine (ps ++ p ∷ []) (text ++ line)

-- a line for each patch of a repository that is chosen; the oldest patch is at place 1
abbrev pub IsRestsText : LogOptions → List Patch → List ℕ → Type 0
IsRestsText o patches text = LinesOf (IsRestsLine patches) (chosen o (placed_from 1 patches)) text
