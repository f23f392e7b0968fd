-- What a store lets go of, while another file has it.
use Rattle.std.specs.Prelude.{◌↔◌, ◌⊎◌, ℕ, List}
use Rattle.dm_named.specs.declared.limits.Kinds.{Kinds}
use Rattle.dm_named.specs.Patches.{Patch}
use Rattle.dm_bundle.specs.Bundles.{Contents, BundleTextIn}
use Rattle.dm_bundle.specs.Patches.{infos_of, SameMembers}
use Rattle.dm_prim.specs.Primitives.{LawfulMap}
use Rattle.dm_repo.specs.declared.policy.Policy.TheVariants.{Refuse}
use Rattle.dm_repo.specs.Folds.{Fold}
use Rattle.dm_scratch.specs.declared.verdict.Verdict.{Verdict}
use Rattle.dm_scratch.specs.Taking.{TakesBundle, IsAccepted}
use Rattle.dm_journal.specs.Device.{Within}
use Rattle.dm_store.specs.Keeping.{KeepsRepo, Kept}

-- the text stands for a bundle, of primitives of these kinds, that what stays takes whole: it has then patches of just the names that the
-- repository has, and makes its tree
pub record GivesBack (kinds : Kinds) (repo stays : List Patch) (text : List ℕ) : Type 0 where
  pub gone : Contents
  pub stands : BundleTextIn kinds text gone
  pub verdict : Verdict
  pub accepted : IsAccepted verdict
  pub after : List Patch
  pub takes : TakesBundle stays gone Refuse verdict after
  pub names : SameMembers (infos_of repo) (infos_of after)
  pub same_tree : (t : LawfulMap) → Fold repo t ↔ Fold after t

-- the file keeps the repository; or it keeps what stays, and whatever a crash leaves of the other file gives back what is gone
abbrev pub LosesNothing : Kinds → Kept → Kept → (List ℕ → Type 0) → List ℕ → Type 0
LosesNothing kinds kept stays other_may_leave file =
    KeepsRepo kinds file kept ⊎ (KeepsRepo kinds file stays × Within other_may_leave (GivesBack kinds kept.patches stays.patches))
