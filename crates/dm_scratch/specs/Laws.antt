-- What holds of taking all texts into all repositories.
use Rattle.std.specs.Prelude.{◌≡◌, ◌≢◌, ℕ, List}
use Rattle.std.specs.List.{AllByRecursion}
use Rattle.dm_named.specs.declared.limits.Limits.{Limits}
use Rattle.dm_named.specs.Patches.{Patch}
use Rattle.dm_bundle.specs.Bundles.{Contents}
use Rattle.dm_bundle.specs.Patches.{AreAllOf}
use Rattle.dm_repo.specs.declared.policy.Policy.{Policy}
use Rattle.dm_repo.specs.declared.policy.Policy.TheVariants.{Refuse}
use Rattle.dm_repo.specs.declared.refusal.Refusal.TheVariants.{NoMemory}
use Rattle.dm_scratch.specs.declared.verdict.Verdict.{Verdict}
use Rattle.dm_scratch.specs.declared.verdict.Verdict.TheVariants.{Refused}
use Rattle.dm_scratch.specs.Taking.{TakesBundle, TakesWithin, TakesEach, IsAccepted}

-- a bundle that is taken into a repository under a policy has one verdict, and leaves one repository, where memory doesn't run out
abbrev pub TakingABundleHasOneOutcome : Type 0
TakingABundleHasOneOutcome = (repo : List Patch) (b : Contents) (policy : Policy) (v w : Verdict) (after later : List Patch) → v ≢ Refused NoMemory → w ≢ Refused NoMemory →
    TakesBundle repo b policy v after → TakesBundle repo b policy w later → (v ≡ w) × (after ≡ later)

-- so has a text, whatever the limits within which it is read
abbrev pub TakingHasOneOutcome : Type 0
TakingHasOneOutcome = (limits : Limits) (repo : List Patch) (text : List ℕ) (policy : Policy) (v w : Verdict) (after later : List Patch) → v ≢ Refused NoMemory → w ≢ Refused NoMemory →
    TakesWithin limits repo text policy v after → TakesWithin limits repo text policy w later → (v ≡ w) × (after ≡ later)

-- memory ran out for none of these
abbrev pub HadMemory : List Verdict → Type 0
HadMemory verdicts = AllByRecursion (λ v. v ≢ Refused NoMemory) verdicts

-- so have texts that are taken in turn: each has one verdict, and together they leave one repository
abbrev pub TakingEachHasOneOutcome : Type 0
TakingEachHasOneOutcome = (repo : List Patch) (texts : List (List ℕ)) (policy : Policy) (vs ws : List Verdict) (after later : List Patch) → HadMemory vs → HadMemory ws →
    TakesEach repo texts policy vs after → TakesEach repo texts policy ws later → (vs ≡ ws) × (after ≡ later)

-- where conflicts are refused a text is taken whole or not at all: the repository is left as it was where the verdict isn't accepted
abbrev pub RefusingTakesAllOrNothing : Type 0
RefusingTakesAllOrNothing = (limits : Limits) (repo : List Patch) (text : List ℕ) (v : Verdict) (after : List Patch) → (IsAccepted v → ⊥) → TakesWithin limits repo text Refuse v after → after ≡ repo

-- what a text leaves has only the kinds of primitives that are read, if the repository before it has
abbrev pub TakingKeepsKinds : Type 0
TakingKeepsKinds = (limits : Limits) (repo : List Patch) (text : List ℕ) (policy : Policy) (v : Verdict) (after : List Patch) → AreAllOf limits.kinds repo →
    TakesWithin limits repo text policy v after → AreAllOf limits.kinds after
