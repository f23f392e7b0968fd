-- What a file keeps: a repository, and its base.
use Rattle.std.specs.Prelude.{◌≡◌, ◌≢◌, ◌⊎◌, ◌<◌, ◌^◌, ℕ, List, [], ◌∷◌}
use Rattle.std.specs.List.{FoldsTo}
use Rattle.dm_named.specs.Laws.{with_kinds}
use Rattle.dm_named.specs.Limits.{own}
use Rattle.dm_named.specs.declared.limits.Kinds.{Kinds}
use Rattle.dm_named.specs.Patches.{Patch}
use Rattle.dm_bundle.specs.Canonical.{bundle_text}
use Rattle.dm_bundle.specs.Faults.{IsWithinSizeOf}
use Rattle.dm_bundle.specs.Patches.{AreFewWithin}
use Rattle.dm_begin.specs.Bases.{BeginsWith, MayHaveBase}
use Rattle.dm_repo.specs.declared.policy.Policy.{Policy}
use Rattle.dm_repo.specs.declared.policy.Policy.TheVariants.{Refuse}
use Rattle.dm_scratch.specs.declared.verdict.Verdict.{Verdict}
use Rattle.dm_scratch.specs.declared.verdict.Verdict.TheVariants.{Taken, TakenSome, NothingNew, Malformed, Refused}
use Rattle.dm_scratch.specs.Taking.{TakesIn, TakesWithin}
use Rattle.dm_journal.specs.Journal.{StandsIn}
use Rattle.dm_journal.specs.Ready.{HasTexts}
use Rattle.dm_journal.specs.declared.format.Format.{Format}
use Rattle.dm_store.specs.Entries.{entry_of, whole_entry, counted_entry, all_of}
use Rattle.dm_store.specs.Growth.{IsGrowthOf}
use Rattle.dm_store.specs.Kinds.{kinds_of, kinds_in}
use Rattle.dm_store.specs.declared.store.Store.{Store}

-- the patches of a repository, and how many of them, from the first, are its base
pub record Kept : Type 0 where
  pub base : ℕ
  pub patches : List Patch

-- so many of these patches are the base
abbrev pub kept_as : ℕ → List Patch → Kept
kept_as base patches = record { base = base; patches = patches }

-- nothing yet
abbrev pub empty : Kept
empty = kept_as 0 []

-- what a store has in memory
abbrev pub kept_in : {D : Type 0} → Store D → Kept
kept_in store = kept_as store.base store.repo.patches

-- something was taken: all of the bundle's patches that weren't held, or some of them
abbrev pub HasTaken : Verdict → Type 0
HasTaken (Taken count) = Unit {0}
HasTaken (TakenSome count skipped) = Unit {0}
HasTaken NothingNew = ⊥
HasTaken (Malformed fault) = ⊥
HasTaken (Refused why) = ⊥

-- the entry is that of a policy and a text, and the text, of primitives of these kinds, is taken under the policy, which leaves the
-- repository after it; the base stays
pub record TakesText (kinds : Kinds) (kept : Kept) (entry : List ℕ) (after : Kept) : Type 0 where
  pub policy : Policy
  pub text : List ℕ
  pub verdict : Verdict
  pub is : entry ≡ entry_of policy text
  pub taken : HasTaken verdict
  pub takes : TakesIn kinds kept.patches text policy verdict after.patches
  pub same : after.base ≡ kept.base

-- the text of a whole repository, of primitives of these kinds, is taken where nothing is held, within the limits for one's own, which
-- leaves these patches
pub record TakesAll (kinds : Kinds) (kept : Kept) (text : List ℕ) (patches : List Patch) : Type 0 where
  pub empty : kept.patches ≡ []
  pub verdict : Verdict
  pub taken : HasTaken verdict
  pub takes : TakesWithin (with_kinds own kinds) [] text Refuse verdict patches

-- the entry is that of a whole repository whose base its form tells
pub record TakesWhole (kinds : Kinds) (kept : Kept) (entry : List ℕ) (after : Kept) : Type 0 where
  pub text : List ℕ
  pub is : entry ≡ whole_entry text
  pub takes : TakesAll kinds kept text after.patches
  pub begins : BeginsWith after.patches after.base

-- the entry is that of a whole repository, and tells how many patches are its base, which they may be
pub record TakesCounted (kinds : Kinds) (kept : Kept) (entry : List ℕ) (after : Kept) : Type 0 where
  pub text : List ℕ
  pub is : entry ≡ counted_entry after.base text
  pub small : after.base < 2 ^ 64
  pub takes : TakesAll kinds kept text after.patches
  pub may : MayHaveBase after.patches after.base

-- the entry is taken, in one of these three ways
abbrev pub TakesEntry : Kinds → Kept → List ℕ → Kept → Type 0
TakesEntry kinds kept entry after = TakesText kinds kept entry after ⊎ (TakesWhole kinds kept entry after ⊎ TakesCounted kinds kept entry after)

-- the entries are taken one after the other, from the empty repository on, each into the repository that the one before it left
abbrev pub FoldTo : Kinds → List (List ℕ) → Kept → Type 0
FoldTo kinds entries kept = FoldsTo (TakesEntry kinds) empty entries kept

-- the file is for these kinds, and stands for entries that fold from the empty repository to this one
pub record KeepsRepo (kinds : Kinds) (file : List ℕ) (kept : Kept) : Type 0 where
  pub format : Format
  pub entries : List (List ℕ)
  pub is_for : kinds_of format ≡ kinds
  pub stands : StandsIn format file entries
  pub folds : FoldTo kinds entries kept

-- the file keeps this repository, or the one that the text leaves when it is taken into it
abbrev pub KeepsWithOrWithout : Kinds → Kept → List ℕ → Policy → List ℕ → Type 0
KeepsWithOrWithout kinds kept text policy file =
    KeepsRepo kinds file kept ⊎ ((after : Kept) × TakesText kinds kept (entry_of policy text) after × KeepsRepo kinds file after)

-- the file keeps this repository or the other one
abbrev pub KeepsEither : Kinds → Kept → Kept → List ℕ → Type 0
KeepsEither kinds kept other file = KeepsRepo kinds file kept ⊎ KeepsRepo kinds file other

-- the file keeps the repository, and is for these kinds or for those
abbrev pub KeepsForEither : Kinds → Kinds → Kept → List ℕ → Type 0
KeepsForEither kinds others kept file = KeepsRepo kinds file kept ⊎ KeepsRepo others file kept

-- the file is the old one, or it keeps the repository
abbrev pub IsOrKeeps : Kinds → List ℕ → Kept → List ℕ → Type 0
IsOrKeeps kinds old kept file = (file ≡ old) ⊎ KeepsRepo kinds file kept

-- a crash now leaves a file that keeps the repository
abbrev pub CrashesKeep : {D : Type 0} → Kinds → (D → List ℕ → Type 0) → D → Kept → Type 0
CrashesKeep kinds may_leave device kept = (c : List ℕ) → may_leave device c → KeepsRepo kinds c kept

-- the store's journal has entries, all of them on the disk, that fold to what the store has, and the store knows how much longer they have become
pub record IsStored {D : Type 0} (seen : D → List ℕ) (may_leave file_may_leave : D → List ℕ → Type 0) (store : Store D) : Type 0 where
  pub entries : List (List ℕ)
  pub has : HasTexts seen may_leave file_may_leave store.journal entries
  pub folds : FoldTo (kinds_in store) entries (kept_in store)
  pub grown : IsGrowthOf entries store.growth

-- the repository has patches, and they can be read again from one text: they are few enough, and so are its bytes
pub record FitsOneEntry (repo : List Patch) : Type 0 where
  pub some : repo ≢ []
  pub few : AreFewWithin own repo
  pub small : IsWithinSizeOf own (bundle_text (all_of repo))

-- the entry of all patches of a repository, and of its base
abbrev pub entry_of_all : Kept → List ℕ
entry_of_all kept = counted_entry kept.base (bundle_text (all_of kept.patches))

-- the entries that leave a repository: none for one without patches, and for any other one of all its patches
abbrev pub entries_of : ℕ → List Patch → List (List ℕ)
entries_of base [] = []
entries_of base (p ∷ ps) = entry_of_all (kept_as base (p ∷ ps)) ∷ []

abbrev pub entries_of_all : Kept → List (List ℕ)
entries_of_all kept = entries_of kept.base kept.patches
