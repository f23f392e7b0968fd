-- Which names stand for one patch in texts, as they are read within limits.
use Rattle.std.specs.Prelude.{ℕ, List}
use Rattle.std.specs.List.{Contains}
use Rattle.dm_info.specs.PatchInfo.{PatchInfo}
use Rattle.dm_named.specs.declared.limits.Limits.{Limits}
use Rattle.dm_named.specs.Patches.{Patch}
use Rattle.dm_bundle.specs.Bundles.{Contents}
use Rattle.dm_repo.specs.Repositories.{Holds}
use Rattle.dm_scratch.specs.Taking.{ReadsWithin}
use Rattle.dm_converge.specs.Pools.{BeginAlike}

-- a text of the pool, read within these limits, stands for the bundle
abbrev pub Brings : Limits → List (List ℕ) → Contents → Type 0
Brings limits pool b = (text : List ℕ) × Contains pool text × ReadsWithin limits text b

-- a name stands for one patch: two bundles that have new patches of one name begin alike, and none has one of a name that the base holds
pub record StandForOne (IsThere : Contents → Type 0) (base : List Patch) : Type 0 where
  pub among : (b c : Contents) (i : PatchInfo) → IsThere b → IsThere c → Holds b.patches i → Holds c.patches i → BeginAlike b c
  pub beside : (b : Contents) (i : PatchInfo) → IsThere b → Holds b.patches i → Holds base i → ⊥

-- this name doesn't: two bundles that have new patches of it don't begin alike, or one has a new patch of it and the base holds it
pub data StandsForTwo (IsThere : Contents → Type 0) (base : List Patch) (i : PatchInfo) : Type 0 where
  brought_twice : (b c : Contents) → IsThere b → IsThere c → Holds b.patches i → Holds c.patches i → (BeginAlike b c → ⊥) → StandsForTwo IsThere base i
  held_before : (b : Contents) → IsThere b → Holds b.patches i → Holds base i → StandsForTwo IsThere base i

-- a name stands for one patch in what is read of the pool within these limits
abbrev pub NamesStandWithin : Limits → List (List ℕ) → List Patch → Type 0
NamesStandWithin limits pool base = StandForOne (Brings limits pool) base

-- this name doesn't
abbrev pub NameIsShared : Limits → List (List ℕ) → List Patch → PatchInfo → Type 0
NameIsShared limits pool base i = StandsForTwo (Brings limits pool) base i
