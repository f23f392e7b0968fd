-- Why a journal's entries are no repository.
use Rattle.std.specs.Prelude.{◌≡◌, ℕ, List, ◌∷◌, ◌++◌, length}
use Rattle.dm_named.specs.declared.limits.Kinds.{Kinds}
use Rattle.dm_journal.specs.Journal.{StandsIn}
use Rattle.dm_journal.specs.declared.format.Format.{Format}
use Rattle.dm_store.specs.Keeping.{TakesEntry, FoldTo, Kept}
use Rattle.dm_store.specs.Kinds.{kinds_of}
use Rattle.dm_store.specs.declared.fault.StoreError.{StoreError}
use Rattle.dm_store.specs.declared.fault.StoreError.TheVariants.{Journal, NoMemory, BadEntry}

-- the entry isn't taken into the repository, whatever that would leave
abbrev pub IsBadEntry : Kinds → Kept → List ℕ → Type 0
IsBadEntry kinds kept entry = (after : Kept) → TakesEntry kinds kept entry after → ⊥

-- the entries before this number fold to a repository, into which the entry of this number isn't taken
pub record FoldStops (kinds : Kinds) (entries : List (List ℕ)) (number : ℕ) : Type 0 where
  pub before : List (List ℕ)
  pub entry : List ℕ
  pub others : List (List ℕ)
  pub kept : Kept
  pub at : entries ≡ before ++ entry ∷ others
  pub is_number : number ≡ length before
  pub folds : FoldTo kinds before kept
  pub stuck : IsBadEntry kinds kept entry

-- the file stands for entries, and the one of this number isn't taken
abbrev pub HasBadEntry : List ℕ → ℕ → Type 0
HasBadEntry file number = (format : Format) × (entries : List (List ℕ)) × StandsIn format file entries × FoldStops (kinds_of format) entries number

-- memory ran out, or an entry isn't taken
abbrev pub StopsFor : Kinds → List (List ℕ) → StoreError → Type 0
StopsFor kinds entries (Journal error) = ⊥
StopsFor kinds entries NoMemory = Unit {0}
StopsFor kinds entries (BadEntry number) = FoldStops kinds entries number
