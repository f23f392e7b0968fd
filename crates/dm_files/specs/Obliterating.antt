-- What `dm obliterate` is asked for, and what is left of the mirror.
use Rattle.std.specs.Prelude.{◌≡◌, ◌⊎◌, ℕ, List, Option, None, Some, false, IfOk, IfSome}
use Rattle.dm_info.specs.PatchInfo.{PatchInfo}
use Rattle.dm_named.specs.declared.limits.Kinds.{Kinds}
use Rattle.dm_named.specs.Patches.{Patch}
use Rattle.dm_bundle.specs.Bundles.{Contents}
use Rattle.dm_bundle.specs.Patches.{infos_of}
use Rattle.dm_disk.specs.Events.{Event}
use Rattle.dm_disk.specs.States.{may_leave, opened_by}
use Rattle.dm_journal.specs.Device.{Within}
use Rattle.dm_store.specs.LettingGo.{GivesBack, LosesNothing}
use Rattle.dm_store.specs.Keeping.{CrashesKeep, KeepsEither, Kept, kept_as}
use Rattle.dm_commands.specs.Mirrors.{IsMirrorOf}
use Rattle.dm_commands.specs.Obliterating.{ObliteratesBehind}
use Rattle.dm_words.specs.declared.request.Obliterate.{Obliterate}
use Rattle.dm_words.specs.Requests.{texts_in}
use Rattle.dm_files.specs.Choosing.{Chooses}
use Rattle.dm_files.specs.declared.outcome.Outcome.{Outcome}
use Rattle.dm_files.specs.Mirrors.{IsDoneTo}

-- the words choose patches of the repository, one each; these go, and those that are bound to them, and the others stay
pub record Goes (asked : Obliterate) (held : Kept) (stays : List Patch) : Type 0 where
  pub chosen : List PatchInfo
  pub cut : Contents
  pub bound : List (PatchInfo × PatchInfo)
  pub are_chosen : Chooses (infos_of held.patches) (texts_in asked.patches) chosen
  pub obliterates : ObliteratesBehind held.patches held.base chosen stays cut bound

-- so it is, or nothing goes
abbrev pub MayGo : Obliterate → Kept → List Patch → Type 0
MayGo asked held stays = (stays ≡ held.patches) ⊎ Goes asked held stays

-- this file was opened by the name, and whatever a crash leaves of it gives back what goes
abbrev pub IsSavedIn : Kinds → List Patch → List Patch → Option (List Event) → List ℕ → Type 0
IsSavedIn kinds repo stays saved name = (file : List Event) × (saved ≡ Some file) × (opened_by file ≡ name) × Within (may_leave file) (GivesBack kinds repo stays)

-- so it is with the file that is to get the bundle, if one is named
abbrev pub IsSavedAsAsked : Obliterate → Kinds → List Patch → List Patch → Option (List Event) → Type 0
IsSavedAsAsked asked kinds repo stays saved = IfSome asked.output (λ name. IsSavedIn kinds repo stays saved name.now)

-- the mirror's file keeps the repository, or what stays; and then, where another file was to get what goes, whatever a crash leaves of that gives it back
abbrev pub LetsGo : Kinds → Kept → Kept → Option (List Event) → List ℕ → Type 0
LetsGo kinds held stays None file = KeepsEither kinds held stays file
LetsGo kinds held stays (Some saved) file = LosesNothing kinds held stays (may_leave saved) file

-- the words choose patches and these go: the mirror's file, as it is left, keeps those that stay, and the file that is to get the bundle gives back the others
pub record IsGoneAndKept (asked : Obliterate) (kinds : Kinds) (held : Kept) (outcome : Outcome) : Type 0 where
  pub stays : List Patch
  pub goes : Goes asked held stays
  pub closed : List Event
  pub is : outcome.file ≡ Some closed
  pub keeps : CrashesKeep kinds may_leave closed (kept_as held.base stays)
  pub saved : IsSavedAsAsked asked kinds held.patches stays outcome.saved

-- What comes of `dm obliterate`, with the mirror's file and that of the bundle. Where the mirror's file comes back, also with an error, a crash at any moment leaves what it had, or what stays once
-- those that the words choose are out, and loses no patch that was to be saved.
pub record IsObliterated (asked : Obliterate) (outcome : Outcome) : Type 0 where
  pub kinds : Kinds
  pub held : Kept
  pub gone : IfOk outcome.answer (λ status. status ≡ 0 → asked.dry_run ≡ false → IsGoneAndKept asked kinds held outcome)
  pub stays : List Patch
  pub may : MayGo asked held stays
  pub done : IfSome outcome.file (IsDoneTo asked.mirror.now (λ file. IsMirrorOf kinds file held) (LetsGo kinds held (kept_as held.base stays) outcome.saved))
