-- Texts that mirrors may take, and what they come to.
use Rattle.std.specs.Prelude.{◌≡◌, ℕ, List, ◌++◌}
use Rattle.std.specs.List.{Contains}
use Rattle.dm_info.specs.PatchInfo.{PatchInfo}
use Rattle.dm_prim.specs.Primitives.{LawfulMap}
use Rattle.dm_named.specs.declared.limits.Limits.{Limits}
use Rattle.dm_named.specs.declared.limits.Kinds.{Kinds}
use Rattle.dm_named.specs.declared.limits.Kinds.TheVariants as these
use Rattle.dm_named.specs.Patches.{Patch}
use Rattle.dm_bundle.specs.Patches.{infos_of, SameMembers}
use Rattle.dm_bundle.specs.Bundles.{Contents, BundleTextIn}
use Rattle.dm_repo.specs.declared.policy.Policy.{Policy}
use Rattle.dm_repo.specs.Folds.{Fold}
use Rattle.dm_repo.specs.Repositories.{Holds}
use Rattle.dm_scratch.specs.declared.verdict.Verdict.{Verdict}
use Rattle.dm_scratch.specs.Taking.{TakesWithin}

-- a text of the pool stands for the bundle, whose primitives are of these kinds
abbrev pub HasBundleIn : Kinds → List (List ℕ) → Contents → Type 0
HasBundleIn kinds pool b = (text : List ℕ) × Contains pool text × BundleTextIn kinds text b

-- the first kinds of primitives are among the second
abbrev pub AreAmong : Kinds → Kinds → Type 0
AreAmong few these.All = Unit {0}
AreAmong these.Six these.Six = Unit {0}
AreAmong these.All these.Six = ⊥

-- two bundles begin alike: their contexts have the same names, their new patches begin with the same ones, and no name is among the others of both
pub record BeginAlike (b c : Contents) : Type 0 where
  pub context : SameMembers b.context c.context
  pub shared : List Patch
  pub rest : List Patch
  pub other_rest : List Patch
  pub is_one : b.patches ≡ shared ++ rest
  pub is_other : c.patches ≡ shared ++ other_rest
  pub apart : (i : PatchInfo) → Holds rest i → Holds other_rest i → ⊥

-- a name stands for one patch: two bundles of the pool, of primitives of these kinds, that have new patches of one name begin alike, and none has
-- one of a name that the base holds
pub record NamesStandForOneIn (kinds : Kinds) (pool : List (List ℕ)) (base : List Patch) : Type 0 where
  pub among : (b c : Contents) (i : PatchInfo) → HasBundleIn kinds pool b → HasBundleIn kinds pool c → Holds b.patches i → Holds c.patches i → BeginAlike b c
  pub beside : (b : Contents) (i : PatchInfo) → HasBundleIn kinds pool b → Holds b.patches i → Holds base i → ⊥

-- the same of bundles of the six kinds
abbrev pub NamesStandForOne : List (List ℕ) → List Patch → Type 0
NamesStandForOne pool base = NamesStandForOneIn these.Six pool base

-- what comes of a base by taking texts of a pool: in any order, any of them any number of times, taken or refused, each under some policy and
-- within some limits, which allow no more kinds of primitives than these
pub data ComesOfIn (kinds : Kinds) (pool : List (List ℕ)) (base : List Patch) : List Patch → Type 0 where
  as_it_was : ComesOfIn kinds pool base base
  took : {repo after : List Patch} {limits : Limits} {text : List ℕ} {policy : Policy} {verdict : Verdict} →
      ComesOfIn kinds pool base repo → Contains pool text → AreAmong limits.kinds kinds → TakesWithin limits repo text policy verdict after →
      ComesOfIn kinds pool base after

-- the same with the six kinds
abbrev pub ComesOf : List (List ℕ) → List Patch → List Patch → Type 0
ComesOf pool base repo = ComesOfIn these.Six pool base repo

-- if the two have the same names, they make the same tree
abbrev pub NamesDecideTree : List Patch → List Patch → Type 0
NamesDecideTree one other = SameMembers (infos_of one) (infos_of other) → (s t : LawfulMap) → Fold one s → Fold other t → s ≡ t
