-- Before which step of weighing a refusal is found.
use Rattle.std.proofs.Common.{◌≢◌, List}
use Rattle.dm_named.specs.Patches.{Patch}
use Rattle.dm_bundle.specs.Bundles.{Contents}
use Rattle.dm_repo.specs.declared.refusal.Refusal.{Refusal}
use Rattle.dm_repo.specs.declared.refusal.Refusal.TheVariants.{MissingContext, MissingDependency, ContextDepends, HeldDepends, DoesNotFit, Conflicts, Full, NoMemory}
use Rattle.dm_repo.specs.Refusals.{IsBeforeFront, IsBeforeFit, IsBeforeMerge}
use Rattle.dm_repo.specs.Splitting.{RefusesToSplit}
use Rattle.dm_repo.specs.Weighing.{FrontIsFull}

-- what refuses to split does so before the front is applied
pub split_before : (repo : List Patch) (b : Contents) (why : Refusal) → RefusesToSplit repo b why → IsBeforeFront why
split_before repo b (MissingContext c) h = tt
split_before repo b (ContextDepends n d) h = tt
split_before repo b NoMemory h = tt
split_before repo b (MissingDependency n d) h = absurd h
split_before repo b (HeldDepends n d) h = absurd h
split_before repo b (DoesNotFit n) h = absurd h
split_before repo b (Conflicts n d) h = absurd h
split_before repo b Full h = absurd h

-- a step before is one before the next too
pub before_fit : (repo : List Patch) (b : Contents) (why : Refusal) → IsBeforeFront why → IsBeforeFit repo b why
before_fit repo b (MissingContext c) h = tt
before_fit repo b (MissingDependency n d) h = tt
before_fit repo b (ContextDepends n d) h = tt
before_fit repo b (HeldDepends n d) h = tt
before_fit repo b NoMemory h = tt
before_fit repo b (DoesNotFit n) h = absurd h
before_fit repo b (Conflicts n d) h = absurd h
before_fit repo b Full h = absurd h

pub before_merge : (repo : List Patch) (b : Contents) (why : Refusal) → IsBeforeFit repo b why → IsBeforeMerge repo b why
before_merge repo b (MissingContext c) h = tt
before_merge repo b (MissingDependency n d) h = tt
before_merge repo b (ContextDepends n d) h = tt
before_merge repo b (HeldDepends n d) h = tt
before_merge repo b NoMemory h = tt
before_merge repo b (DoesNotFit n) h = absurd h
before_merge repo b (Conflicts n d) h = absurd h
before_merge repo b Full h = h

-- nothing is full before the front is applied, nor before the merge where the front isn't
pub front_not_full : {why : Refusal} → IsBeforeFront why → why ≢ Full
front_not_full h = λ e. rw e at h

pub merge_not_full : {repo : List Patch} {b : Contents} {why : Refusal} → (FrontIsFull repo b → ⊥) → IsBeforeMerge repo b why → why ≢ Full
merge_not_full {repo} {b} n h = λ e. n (rw e at h)
