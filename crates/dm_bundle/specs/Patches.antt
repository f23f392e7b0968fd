-- The new patches of a bundle, oldest first.
use Rattle.std.specs.Prelude.{◌≤◌, ◌↔◌, ◌+◌, ℕ, List, [], ◌∷◌, length, map, Contains}
use Rattle.std.specs.List.{AllByRecursion}
use Rattle.dm_info.specs.PatchInfo.{PatchInfo}
use Rattle.dm_prim.specs.Primitives.{Prim, At, Replace}
use Rattle.dm_named.specs.Limits.{standard}
use Rattle.dm_named.specs.Many.{Many}
use Rattle.dm_named.specs.Words.{skipped}
use Rattle.dm_named.specs.Kinds.{AreOf, AreWritable}
use Rattle.dm_named.specs.Patches.{Patch, PatchTextIn}
use Rattle.dm_named.specs.declared.limits.Limits.{Limits}
use Rattle.dm_named.specs.declared.limits.Kinds.{Kinds}
use Rattle.dm_named.specs.declared.limits.Kinds.TheVariants as these

-- the patch infos of patches
abbrev pub infos_of : List Patch → List PatchInfo
infos_of patches = map (λ p. p.info) patches

-- no patch info occurs twice among these
abbrev pub Distinct : List PatchInfo → Type 0
Distinct [] = Unit {0}
Distinct (i ∷ is) = (Contains is i → ⊥) × Distinct is

-- the same patch infos are in both
abbrev pub SameMembers : List PatchInfo → List PatchInfo → Type 0
SameMembers xs ys = (i : PatchInfo) → Contains xs i ↔ Contains ys i

-- a named patch of primitives of these kinds after white space
abbrev pub NextPatch : Kinds → List ℕ → Patch → List ℕ → Type 0
NextPatch kinds text p rest = PatchTextIn kinds (skipped text) p rest

-- named patches of primitives of these kinds one after the other, none with the patch info of another
pub record NewPatches (kinds : Kinds) (text : List ℕ) (patches : List Patch) (rest : List ℕ) : Type 0 where
  pub read : Many (NextPatch kinds) text patches rest
  pub distinct : Distinct (infos_of patches)

-- one for a replace, none for any other primitive
abbrev pub replaces_in : Prim → ℕ
replaces_in (At p (Replace set old new)) = 1
replaces_in _ = 0

-- how many of these primitives are replaces
abbrev pub replaces_among : List Prim → ℕ
replaces_among [] = 0
replaces_among (p ∷ ps) = replaces_in p + replaces_among ps

-- how many of the primitives of these patches are replaces
abbrev pub replaces_of : List Patch → ℕ
replaces_of [] = 0
replaces_of (p ∷ ps) = replaces_among p.prims + replaces_of ps

-- so many replaces are no more than the most, where all kinds are read; the six kinds have none to count
abbrev pub IsFewReplaces : Kinds → ℕ → ℕ → Type 0
IsFewReplaces these.Six most count = Unit {0}
IsFewReplaces these.All most count = count ≤ most

-- the patches have no more replaces than these limits allow
abbrev pub HasFewReplaces : Limits → List Patch → Type 0
HasFewReplaces limits patches = IsFewReplaces limits.kinds limits.replaces (replaces_of patches)

-- no more new patches than these limits allow, each of no more primitives, and no more replaces in all
pub record AreFewWithin (limits : Limits) (patches : List Patch) : Type 0 where
  pub count : length patches ≤ limits.patches
  pub prims : AllByRecursion (λ p. length p.prims ≤ limits.prims) patches
  pub replaces : HasFewReplaces limits patches

-- no more than the standard limits allow
abbrev pub AreFew : List Patch → Type 0
AreFew patches = AreFewWithin standard patches

-- the primitives of each patch are of these kinds
abbrev pub AreAllOf : Kinds → List Patch → Type 0
AreAllOf kinds patches = AllByRecursion (λ p. AreOf kinds p.prims) patches

-- the primitives of each patch are of these kinds and can be written
abbrev pub AreAllWritable : Kinds → List Patch → Type 0
AreAllWritable kinds patches = AllByRecursion (λ p. AreWritable kinds p.prims) patches
