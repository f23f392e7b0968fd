-- For each name the place of a bundle that brings it. For the clauses of private functions alone.
use Rattle.std.specs.Prelude.{◌≡◌, ◌↔◌, ◌⊎◌, ℕ, ◌+◌, List, Option, None, Some, drop, take, slice_get}
use Rattle.std.specs.List.{Contains}
use Rattle.std.specs.BTreeMap.{BTreeMap, get}
use Rattle.dm_info.specs.PatchInfo.{PatchInfo}
use Rattle.dm_info.specs.Compared.{info_cmp}
use Rattle.dm_named.specs.declared.limits.Limits.{Limits}
use Rattle.dm_named.specs.Patches.{Patch}
use Rattle.dm_bundle.specs.Patches.{SameMembers}
use Rattle.dm_bundle.specs.Bundles.{Contents}
use Rattle.dm_repo.specs.Repositories.{Holds}
use Rattle.dm_scratch.specs.Taking.{ReadsWithin}
use Rattle.dm_converge.specs.Pools.{BeginAlike}

-- the place that the map gives for a name
abbrev pub owner : BTreeMap PatchInfo ℕ → PatchInfo → Option ℕ
owner m i = get info_cmp m i

-- the names of these patches have this place now, and the others what they had
abbrev pub Notes : BTreeMap PatchInfo ℕ → List Patch → ℕ → BTreeMap PatchInfo ℕ → Type 0
Notes old patches place new = (i : PatchInfo) →
    (Holds patches i × (owner new i ≡ Some place)) ⊎ ((Holds patches i → ⊥) × (owner new i ≡ owner old i))

-- no name of these patches has a place
abbrev pub OwnsNone : BTreeMap PatchInfo ℕ → List Patch → Type 0
OwnsNone m patches = (i : PatchInfo) → Holds patches i → owner m i ≡ None

-- the n-th of these patches is the last whose name has a place, and this is the place
pub record IsLastOwned (m : BTreeMap PatchInfo ℕ) (patches : List Patch) (n place : ℕ) : Type 0 where
  pub at : ℕ
  pub count : n ≡ at + 1
  pub patch : Patch
  pub is_patch : slice_get patches at ≡ Some patch
  pub owned : owner m patch.info ≡ Some place
  pub last : OwnsNone m (drop n patches)

-- the map has the names that these bundles bring, each with the place of one that brings it
pub record Owns (m : BTreeMap PatchInfo ℕ) (bundles : List Contents) : Type 0 where
  pub found : (i : PatchInfo) (j : ℕ) → owner m i ≡ Some j → (b : Contents) × (slice_get bundles j ≡ Some b) × Holds b.patches i
  pub all : (b : Contents) (i : PatchInfo) → Contains bundles b → Holds b.patches i → owner m i ≡ None → ⊥

-- two of these bundles that bring one name begin alike
abbrev pub AreAlike : List Contents → Type 0
AreAlike bundles = (b c : Contents) (i : PatchInfo) → Contains bundles b → Contains bundles c → Holds b.patches i → Holds c.patches i → BeginAlike b c

-- the same contexts, and the same first patches, so many of them
abbrev pub AgreeUpTo : Contents → Contents → ℕ → Type 0
AgreeUpTo b c n = SameMembers b.context c.context × (take n b.patches ≡ take n c.patches)

-- each of these that brings a name of the bundle begins as it does
abbrev pub AlikeWith : List Contents → Contents → Type 0
AlikeWith bundles c = (b : Contents) (i : PatchInfo) → Contains bundles b → Holds b.patches i → Holds c.patches i → BeginAlike b c

-- one of these brings the name of the bundle's n-th patch, and doesn't begin as it does
pub record ClashesAt (bundles : List Contents) (c : Contents) (n : ℕ) : Type 0 where
  pub at : ℕ
  pub count : n ≡ at + 1
  pub patch : Patch
  pub is_patch : slice_get c.patches at ≡ Some patch
  pub other : Contents
  pub there : Contains bundles other
  pub holds : Holds other.patches patch.info
  pub differs : BeginAlike other c → ⊥

-- the second bundles are the first, and that of the text if it is read within these limits
abbrev pub AddsBrought : Limits → List ℕ → List Contents → List Contents → Type 0
AddsBrought limits text old new = (b : Contents) → Contains new b ↔ (Contains old b ⊎ ReadsWithin limits text b)
