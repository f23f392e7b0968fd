-- The base of a repository that begins at a tag, and what is taken and sent of it.
use Rattle.std.specs.Prelude.{◌≡◌, ◌≢◌, ◌≤◌, ◌⊎◌, ◌==◌, ℕ, IsTrue, List, [], ◌∷◌, ◌++◌, codes, length, take}
use Rattle.std.specs.List.{Contains, starts_with}
use Rattle.dm_info.specs.PatchInfo.{PatchInfo}
use Rattle.dm_named.specs.Patches.{Patch}
use Rattle.dm_bundle.specs.Patches.{infos_of}
use Rattle.dm_bundle.specs.Bundles.{Contents}
use Rattle.dm_repo.specs.CommonSets.{Closed, KnowsContext, HasAll}
use Rattle.dm_begin.specs.Beginnings.{IsChain, IsPacked}
use Rattle.dm_begin.specs.Sharing.{AreCommon}

-- the name of a tag begins with these bytes
abbrev pub IsTag : PatchInfo → Type 0
IsTag i = IsTrue (starts_with ◌==◌ i.name (codes "TAG "))

-- a tag that has a primitive: no tag of darcs has one
pub record IsTagWithTree (x : Patch) : Type 0 where
  pub is_tag : IsTag x.info
  pub some : x.prims ≢ []

-- the last of the patches is such a tag
pub record EndsInTag (patches : List Patch) : Type 0 where
  pub before : List Patch
  pub last : Patch
  pub is_last : patches ≡ before ++ last ∷ []
  pub is_tag : IsTagWithTree last

-- each patch rests on just the one before it, their primitives are packed, and the last is a tag with a primitive
pub record IsBase (patches : List Patch) : Type 0 where
  pub chained : IsChain [] patches
  pub packed : IsPacked patches
  pub tag : EndsInTag patches

-- the first n patches have the form of a base, and no more of them have; n is 0 if none have
pub record BeginsWith (repo : List Patch) (n : ℕ) : Type 0 where
  pub within : n ≤ length repo
  pub is_base : (n ≡ 0) ⊎ IsBase (take n repo)
  pub greatest : (m : ℕ) → m ≤ length repo → IsBase (take m repo) → m ≤ n

-- the first patches, so many of them, may be a repository's base: there are none, or they have the form of one
pub record MayHaveBase (repo : List Patch) (base : ℕ) : Type 0 where
  pub within : base ≤ length repo
  pub is_base : (base ≡ 0) ⊎ IsBase (take base repo)

-- the context is held, something is new, and not the whole base is common
pub record IsBeforeBase (repo : List Patch) (base : ℕ) (b : Contents) : Type 0 where
  pub knows : KnowsContext repo b
  pub is_new : HasAll repo b → ⊥
  pub lacks : AreCommon repo b (infos_of (take base repo)) → ⊥

-- these names are in the closed set of those
abbrev pub AreClosed : List Patch → List PatchInfo → List PatchInfo → Type 0
AreClosed repo those these = (i : PatchInfo) → Contains these i → Closed repo those i

-- who holds patches of these names has the whole base: by name, or by way of dependencies
abbrev pub KnowsBase : List Patch → ℕ → List PatchInfo → Type 0
KnowsBase repo base names = AreClosed repo names (infos_of (take base repo))

-- left are those of the names that aren't gone, in their order
pub data Without (gone : List PatchInfo) : List PatchInfo → List PatchInfo → Type 0 where
  no_names : Without gone [] []
  goes : {i : PatchInfo} {all left : List PatchInfo} → Contains gone i → Without gone all left → Without gone (i ∷ all) left
  stays : {i : PatchInfo} {all left : List PatchInfo} → (Contains gone i → ⊥) → Without gone all left → Without gone (i ∷ all) (i ∷ left)

-- the last of these names
abbrev pub IsLast : List PatchInfo → PatchInfo → Type 0
IsLast base i = (before : List PatchInfo) × (base ≡ before ++ i ∷ [])

-- the names have the last one of a base, and left is no other of it
pub record LeavesLastAlone (base names left : List PatchInfo) : Type 0 where
  pub before : List PatchInfo
  pub last : PatchInfo
  pub is_last : base ≡ before ++ last ∷ []
  pub has_last : Contains names last
  pub leaves : Without before names left

-- of names that have the last one of a base no other of it is left; else all are left
abbrev pub CutsNames : List PatchInfo → List PatchInfo → List PatchInfo → Type 0
CutsNames base names left =
    LeavesLastAlone base names left ⊎ (((i : PatchInfo) → IsLast base i → Contains names i → ⊥) × (left ≡ names))

-- the same new patches, and a context that names of the base the last alone, where it names that one
pub record CutsBase (repo : List Patch) (base : ℕ) (b cut : Contents) : Type 0 where
  pub patches : cut.patches ≡ b.patches
  pub context : CutsNames (infos_of (take base repo)) b.context cut.context
