-- Why new patches of a bundle are skipped, by name: what stands at the places that are told.
use Rattle.std.specs.Prelude.{◌≡◌, ◌⊎◌, List, [], ◌∷◌, Option, Some, None}
use Rattle.dm_info.specs.PatchInfo.{PatchInfo}
use Rattle.dm_named.specs.Patches.{Patch}
use Rattle.dm_bundle.specs.Bundles.{Contents}
use Rattle.dm_repo.specs.declared.skip.Skip.{Skip}
use Rattle.dm_repo.specs.declared.skip.Stopper.{Stopper}
use Rattle.dm_repo.specs.declared.skip.Stopper.TheVariants.{Held, Skipped}
use Rattle.dm_explain.specs.declared.skips.NamedSkip.{NamedSkip}
use Rattle.dm_explain.specs.declared.skips.Reason.{Reason}
use Rattle.dm_explain.specs.declared.skips.Reason.TheVariants.{Conflicts, Needs}
use Rattle.dm_explain.specs.Accounts.{held_at, new_at}

-- the name of the patch at the place of what stops another, if one stands there
abbrev pub stopper_at : List Patch → Contents → Stopper → Option PatchInfo
stopper_at repo b (Held h) = held_at repo h
stopper_at repo b (Skipped n) = new_at b n

-- a patch conflicts with the held one that stops it, and can't do without the skipped one that stops it
abbrev pub NamesStopper : List Patch → Contents → Stopper → Reason → Type 0
NamesStopper repo b (Held h) (Conflicts name) = held_at repo h ≡ Some name.now
NamesStopper repo b (Skipped n) (Needs name) = new_at b n ≡ Some name.now
NamesStopper repo b by reason = ⊥

-- these are the names of the patch that is skipped and of what stops it
abbrev pub NamesSkip : List Patch → Contents → Skip → NamedSkip → Type 0
NamesSkip repo b skip named = (new_at b skip.place ≡ Some named.patch.now) × NamesStopper repo b skip.by named.by

-- at one of the two places stands no patch
abbrev pub StandsNowhere : List Patch → Contents → Skip → Type 0
StandsNowhere repo b skip = (new_at b skip.place ≡ None) ⊎ (stopper_at repo b skip.by ≡ None)

-- the names for each of what is told, in its order, but where no patch stands at a place
abbrev pub NamesEach : List Patch → Contents → List Skip → List NamedSkip → Type 0
NamesEach repo b [] list = list ≡ []
NamesEach repo b (skip ∷ told) list =
    ((named : NamedSkip) × (more : List NamedSkip) × (list ≡ named ∷ more) × NamesSkip repo b skip named × NamesEach repo b told more) ⊎
    (StandsNowhere repo b skip × NamesEach repo b told list)
