-- What a device has before a mirror is opened or begun there, and what is left of it.
use Rattle.std.specs.Prelude.{◌≡◌, ◌≢◌, ◌<◌, ℕ, List, []}
use Rattle.dm_journal.specs.Device.{LeavesOnly, Moment}
use Rattle.dm_journal.specs.Faults.{HasFault}
use Rattle.dm_journal.specs.Hidden.{Hides}
use Rattle.dm_journal.specs.Ready.{IsFailure}
use Rattle.dm_journal.specs.declared.fault.OpenError.TheVariants.{Device, File}
use Rattle.dm_journal.specs.declared.fault.WriteError.{WriteError}
use Rattle.dm_journal.specs.declared.fault.WriteError.TheVariants.{TooLong, Full}
use Rattle.dm_named.specs.declared.limits.Kinds.{Kinds}
use Rattle.dm_bundle.specs.Patches.{AreAllOf}
use Rattle.dm_begin.specs.Bases.{MayHaveBase}
use Rattle.dm_store.specs.Keeping.{KeepsRepo, Kept, IsOrKeeps, FitsOneEntry}
use Rattle.dm_store.specs.Opening.{HasBadEntry}
use Rattle.dm_store.specs.declared.fault.StoreError.TheVariants.{Journal, NoMemory, BadEntry}
use Rattle.dm_commands.specs.declared.mirror.MirrorFault.{MirrorFault}
use Rattle.dm_commands.specs.declared.mirror.MirrorFault.TheVariants.{Bad, Hidden}
use Rattle.dm_commands.specs.declared.mirror.Unbegun.{Unbegun}
use Rattle.dm_commands.specs.declared.mirror.Unbegun.TheVariants.{IsThere, Kept as AlreadyKept, Unwritten}

-- the file keeps this repository of these kinds, and hides nothing
pub record IsMirrorOf (kinds : Kinds) (file : List ℕ) (kept : Kept) : Type 0 where
  pub keeps : KeepsRepo kinds file kept
  pub hides_none : (at : ℕ) → ¬ Hides file at

-- the file is no mirror, or hides bundles, as the fault tells. A failed device, and too little memory, tell nothing of the file
abbrev pub HasMirrorFault : List ℕ → MirrorFault → Type 0
HasMirrorFault file (Hidden at) = Hides file at
HasMirrorFault file (Bad (BadEntry number)) = HasBadEntry file number
HasMirrorFault file (Bad (Journal (File fault))) = HasFault file fault
HasMirrorFault file (Bad (Journal (Device error))) = Unit {0}
HasMirrorFault file (Bad NoMemory) = Unit {0}

-- what stands where a mirror was to begin: a mirror, or what the fault tells. A failed write tells nothing of the file
abbrev pub IsInTheWay : List ℕ → Unbegun → Type 0
IsInTheWay file IsThere = (kinds : Kinds) × (kept : Kept) × IsMirrorOf kinds file kept
IsInTheWay file (AlreadyKept fault) = HasMirrorFault file fault
IsInTheWay file (Unwritten error) = Unit {0}

-- only the write failed
abbrev pub IsUnwritten : Unbegun → Type 0
IsUnwritten IsThere = ⊥
IsUnwritten (AlreadyKept fault) = ⊥
IsUnwritten (Unwritten error) = Unit {0}

-- the new mirror can't be written for this reason: the disk has failed since, the repository is past the limits or of other kinds, or memory is short. A crash at any moment since leaves no byte, or the mirror
pub record FailsToBegin {D : Type 0} (moment : D → Moment) (left_since : D → ℕ → List ℕ → Type 0) (faults : D → ℕ) (kinds : Kinds) (start : Kept) (old new : D) (error : WriteError) : Type 0 where
  pub failed : IsFailure error → faults old < faults new
  pub too_long : error ≡ TooLong → AreAllOf kinds start.patches → MayHaveBase start.patches start.base → (start.patches ≢ []) × (FitsOneEntry start.patches → ⊥)
  pub not_full : error ≢ Full
  pub any_moment : LeavesOnly moment left_since old new (IsOrKeeps kinds [] start)
