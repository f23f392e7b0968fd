-- What holds of the mirrors of every run.
use Rattle.std.specs.Prelude.{◌≡◌, ◌↔◌, ◌<◌, ℕ, List, slice_get, Some}
use Rattle.std.specs.List.{flat_map, Contains}
use Rattle.dm_named.specs.Limits.{standard}
use Rattle.dm_named.specs.declared.limits.Limits.{Limits}
use Rattle.dm_named.specs.Patches.{Patch}
use Rattle.dm_bundle.specs.Patches.{infos_of, SameMembers}
use Rattle.dm_repo.specs.declared.policy.Policy.{Policy}
use Rattle.dm_repo.specs.Repositories.{Repository}
use Rattle.dm_repo.specs.Orders.{AreAlike}
use Rattle.dm_mirror.specs.declared.outcome.Outcome.{Outcome}
use Rattle.dm_mirror.specs.PlainFolds.{bundle_texts}
use Rattle.dm_mirror.specs.Plans.{IsStart}
use Rattle.dm_mirror.specs.Runs.{AllAccepted, HasRepo, IsRunOf, mails_at, mirror_count}
use Rattle.dm_agree.specs.Names.{NamesStandWithin}

-- the texts that all posters send
abbrev pub sent_texts : List (List (List ℕ)) → List (List ℕ)
sent_texts texts = flat_map (λ sent. sent) texts

-- a mirror of the run began with the repository that the base's text makes within these limits, and ended with this one
pub record IsMirrorOver (limits : Limits) (text : List ℕ) (base : List Patch) (starts : List (List Patch)) (o : Outcome) (repo : Repository) : Type 0 where
  pub number : ℕ
  pub is_start : IsStart limits text base
  pub begins : slice_get starts number ≡ Some base
  pub ends : HasRepo o number repo

-- two mirrors of a run over one base whose repositories hold the same names have one tree, if a name stands for one patch in what is read of what the posters send
abbrev pub MirrorsAgree : Type 0
MirrorsAgree = (texts : List (List (List ℕ))) (starts : List (List Patch)) (policies : List Policy) (bound : ℕ) (o : Outcome) → IsRunOf texts starts policies bound o →
    (limits : Limits) (text : List ℕ) (base : List Patch) (one other : Repository) → IsMirrorOver limits text base starts o one → IsMirrorOver limits text base starts o other →
    NamesStandWithin standard (sent_texts texts) base → SameMembers (infos_of one.patches) (infos_of other.patches) → AreAlike one.patches other.patches

-- a mirror of a run took just the texts that the posters send
abbrev pub MirrorsTakeWhatIsSent : Type 0
MirrorsTakeWhatIsSent = (texts : List (List (List ℕ))) (starts : List (List Patch)) (policies : List Policy) (bound : ℕ) (o : Outcome) → IsRunOf texts starts policies bound o →
    (m : ℕ) → m < mirror_count o → (text : List ℕ) → Contains (bundle_texts (mails_at o m)) text ↔ Contains (sent_texts texts) text

-- two mirrors over one base, of a run in which all was accepted, have the same names and one tree, if a name stands for one patch in what is read of what the posters send
abbrev pub AcceptingMirrorsAgree : Type 0
AcceptingMirrorsAgree = (texts : List (List (List ℕ))) (starts : List (List Patch)) (policies : List Policy) (bound : ℕ) (o : Outcome) → IsRunOf texts starts policies bound o → AllAccepted o →
    (limits : Limits) (text : List ℕ) (base : List Patch) (one other : Repository) → IsMirrorOver limits text base starts o one → IsMirrorOver limits text base starts o other →
    NamesStandWithin standard (sent_texts texts) base → AreAlike one.patches other.patches
