-- What holds of all files and repositories.
use Rattle.std.specs.Prelude.{◌≡◌, ◌≢◌, ℕ, List, [], ◌++◌, length}
use Rattle.dm_named.specs.Laws.{with_kinds}
use Rattle.dm_named.specs.Limits.{own}
use Rattle.dm_named.specs.declared.limits.Kinds.{Kinds}
use Rattle.dm_named.specs.Patches.{Patch}
use Rattle.dm_bundle.specs.Patches.{AreAllOf}
use Rattle.dm_begin.specs.Bases.{MayHaveBase}
use Rattle.dm_repo.specs.declared.policy.Policy.{Policy}
use Rattle.dm_repo.specs.declared.policy.Policy.TheVariants.{Refuse}
use Rattle.dm_repo.specs.declared.refusal.Refusal.TheVariants.{NoMemory}
use Rattle.dm_scratch.specs.declared.verdict.Verdict.{Verdict}
use Rattle.dm_repo.specs.Repositories.{IsRepo}
use Rattle.dm_scratch.specs.declared.verdict.Verdict.TheVariants.{Taken, NothingNew, Refused}
use Rattle.dm_scratch.specs.Taking.{ReadsWithin, TakesIn, TakesWithin, IsAccepted}
use Rattle.dm_store.specs.Entries.{all_of}
use Rattle.dm_store.specs.Keeping.{KeepsRepo, Kept}
use Rattle.dm_store.specs.Opening.{HasBadEntry}

-- a file is for one choice of kinds, and keeps at most one repository with at most one base
abbrev pub KeepsOneRepo : Type 0
KeepsOneRepo = (kinds others : Kinds) (file : List ℕ) (a b : Kept) → KeepsRepo kinds file a → KeepsRepo others file b → (kinds ≡ others) × (a ≡ b)

-- a file that is for some kinds of primitives keeps no others
abbrev pub KeepsItsKinds : Type 0
KeepsItsKinds = (kinds : Kinds) (file : List ℕ) (kept : Kept) → KeepsRepo kinds file kept → AreAllOf kinds kept.patches

-- what a file keeps may have the base that the file tells
abbrev pub KeepsABase : Type 0
KeepsABase = (kinds : Kinds) (file : List ℕ) (kept : Kept) → KeepsRepo kinds file kept → MayHaveBase kept.patches kept.base

-- a file that keeps a repository has no bad entry
abbrev pub KeepsOrHasBadEntry : Type 0
KeepsOrHasBadEntry = (kinds : Kinds) (file : List ℕ) (kept : Kept) (number : ℕ) → KeepsRepo kinds file kept → HasBadEntry file number → ⊥

-- a text that was accepted, under either policy, brings nothing new to any later repository, under either policy, where memory doesn't run out
abbrev pub TwiceIsOnce : Type 0
TwiceIsOnce = (kinds : Kinds) (repo : List Patch) (text : List ℕ) (first : Policy) (v : Verdict) (after more : List Patch) → IsAccepted v → TakesIn kinds repo text first v after →
    (policy : Policy) (w : Verdict) (last : List Patch) → w ≢ Refused NoMemory → TakesIn kinds (after ++ more) text policy w last → (w ≡ NothingNew) × (last ≡ after ++ more)

-- a text that stands for all patches of a repository, both within the limits for one's own, is taken into the empty repository, which leaves that repository
abbrev pub RepositoryIsTakenAgain : Type 0
RepositoryIsTakenAgain = (kinds : Kinds) (repo : List Patch) (text : List ℕ) → IsRepo repo → repo ≢ [] → ReadsWithin (with_kinds own kinds) text (all_of repo) → TakesWithin (with_kinds own kinds) [] text Refuse (Taken (length repo)) repo
