-- What taking a text does to a repository (`darcs apply --no-allow-conflicts`, where a conflict is refused).
use Rattle.std.specs.Prelude.{◌≡◌, ◌≢◌, ◌<◌, ◌⊎◌, ℕ, List, [], ◌∷◌, ◌++◌, length}
use Rattle.dm_named.specs.Limits.{standard}
use Rattle.dm_named.specs.Laws.{with_kinds}
use Rattle.dm_named.specs.declared.limits.Kinds.{Kinds}
use Rattle.dm_named.specs.declared.limits.Limits.{Limits}
use Rattle.dm_named.specs.declared.fault.FaultKind.TheVariants as kind
use Rattle.dm_named.specs.declared.fault.ReadFault.{ReadFault}
use Rattle.dm_named.specs.Patches.{Patch}
use Rattle.dm_bundle.specs.Patches.{AreFewWithin}
use Rattle.dm_bundle.specs.Bundles.{Contents, BundleTextIn}
use Rattle.dm_bundle.specs.Faults.{FaultWithin, IsWithinSizeOf}
use Rattle.dm_repo.specs.declared.policy.Policy.{Policy}
use Rattle.dm_repo.specs.declared.refusal.Refusal.TheVariants.{NoMemory}
use Rattle.dm_repo.specs.Weighing.{IsNothingNew, IsMergeOf, RefusesBundle}
use Rattle.dm_scratch.specs.declared.verdict.Verdict.{Verdict}
use Rattle.dm_scratch.specs.declared.verdict.Verdict.TheVariants.{Taken, TakenSome, NothingNew, Malformed, Refused}

-- the text stands for the bundle, whose primitives are of the kinds that the limits allow, and both are within these limits
pub record ReadsWithin (limits : Limits) (text : List ℕ) (b : Contents) : Type 0 where
  pub stands : BundleTextIn limits.kinds text b
  pub small : IsWithinSizeOf limits text
  pub few : AreFewWithin limits b.patches

-- the text stands for the bundle, and both are within the standard limits
abbrev pub Reads : List ℕ → Contents → Type 0
Reads text b = ReadsWithin standard text b

-- the merged patches are appended, and so many others are skipped
pub record Appended (repo : List Patch) (b : Contents) (policy : Policy) (count skipped : ℕ) (after : List Patch) : Type 0 where
  pub merged : List Patch
  pub is_merge : IsMergeOf repo b policy merged skipped
  pub counted : count ≡ length merged
  pub appended : after ≡ repo ++ merged

-- What taking a bundle does: its merged patches are appended, which are all of it, or some, and the others are skipped; or nothing is new, or it is
-- refused, and the repository stays as it was.
abbrev pub TakesBundle : List Patch → Contents → Policy → Verdict → List Patch → Type 0
TakesBundle repo b policy (Taken count) after = Appended repo b policy count 0 after
TakesBundle repo b policy (TakenSome count skipped) after = Appended repo b policy count skipped after × (0 < count) × (0 < skipped)
TakesBundle repo b policy NothingNew after = IsNothingNew repo b × (after ≡ repo)
TakesBundle repo b policy (Refused why) after = RefusesBundle repo b policy why × (after ≡ repo)
TakesBundle repo b policy (Malformed fault) after = ⊥

-- What taking a text does that is read within these limits: its bundle is taken; or it has a fault, or memory runs out, and the
-- repository stays as it was.
pub data TakesWithin (limits : Limits) (repo : List Patch) (text : List ℕ) (policy : Policy) (verdict : Verdict) (after : List Patch) : Type 0 where
  bundle : (b : Contents) → ReadsWithin limits text b → TakesBundle repo b policy verdict after → TakesWithin limits repo text policy verdict after
  malformed : (fault : ReadFault) → FaultWithin limits text fault.kind fault.at → verdict ≡ Malformed fault → after ≡ repo
      → TakesWithin limits repo text policy verdict after
  no_memory : verdict ≡ Refused NoMemory → after ≡ repo → TakesWithin limits repo text policy verdict after

-- what taking a text does that is read within the standard limits
abbrev pub Takes : List Patch → List ℕ → Policy → Verdict → List Patch → Type 0
Takes repo text policy verdict after = TakesWithin standard repo text policy verdict after

-- the same with these kinds of primitives
abbrev pub TakesIn : Kinds → List Patch → List ℕ → Policy → Verdict → List Patch → Type 0
TakesIn kinds repo text policy verdict after = TakesWithin (with_kinds standard kinds) repo text policy verdict after

-- texts are taken under one policy, one after the other, each into the repository that the one before it left
abbrev pub TakesEach : List Patch → List (List ℕ) → Policy → List Verdict → List Patch → Type 0
TakesEach repo [] policy [] after = after ≡ repo
TakesEach repo (text ∷ texts) policy (verdict ∷ verdicts) after =
    (next : List Patch) × Takes repo text policy verdict next × TakesEach next texts policy verdicts after
TakesEach repo texts policy verdicts after = ⊥

-- the same with these kinds of primitives
abbrev pub TakesEachIn : Kinds → List Patch → List (List ℕ) → Policy → List Verdict → List Patch → Type 0
TakesEachIn kinds repo [] policy [] after = after ≡ repo
TakesEachIn kinds repo (text ∷ texts) policy (verdict ∷ verdicts) after =
    (next : List Patch) × TakesIn kinds repo text policy verdict next × TakesEachIn kinds next texts policy verdicts after
TakesEachIn kinds repo texts policy verdicts after = ⊥

-- the repository has all of the bundle's patches then
abbrev pub IsAccepted : Verdict → Type 0
IsAccepted (Taken count) = Unit {0}
IsAccepted (TakenSome count skipped) = ⊥
IsAccepted NothingNew = Unit {0}
IsAccepted (Malformed fault) = ⊥
IsAccepted (Refused why) = ⊥

-- the verdict on a text that couldn't be read: its fault, but out of memory is a refusal
abbrev pub IsUnread : ReadFault → Verdict → Type 0
IsUnread fault verdict = ((fault.kind ≢ kind.NoMemory) × (verdict ≡ Malformed fault)) ⊎ ((fault.kind ≡ kind.NoMemory) × (verdict ≡ Refused NoMemory))
