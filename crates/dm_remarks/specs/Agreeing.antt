-- Whether the mirrors of a run had to end with one tree.
use Rattle.std.specs.Prelude.{◌≡◌, ℕ, List}
use Rattle.std.proofs.Math.ListN.{replicate}
use Rattle.std.specs.List.{AllByRecursion}
use Rattle.dm_named.specs.Limits.{standard}
use Rattle.dm_named.specs.declared.limits.Limits.{Limits}
use Rattle.dm_named.specs.Patches.{Patch}
use Rattle.dm_bundle.specs.Patches.{infos_of, SameMembers}
use Rattle.dm_repo.specs.declared.policy.Policy.{Policy}
use Rattle.dm_repo.specs.Orders.{AreAlike}
use Rattle.dm_repo.specs.Repositories.{Repository}
use Rattle.dm_mirror.specs.declared.outcome.Outcome.{Outcome}
use Rattle.dm_mirror.specs.Plans.{IsStart}
use Rattle.dm_mirror.specs.Runs.{AllAccepted, HasRepo, IsRunOf}
use Rattle.dm_agree.specs.Laws.{sent_texts}
use Rattle.dm_agree.specs.Names.{NameIsShared, NamesStandWithin}
use Rattle.dm_remarks.specs.declared.agreeing.Agreement.{Agreement}
use Rattle.dm_remarks.specs.declared.agreeing.Agreement.TheVariants.{Equal, TwoMeanings, NotAllTaken}
use Rattle.dm_commands.specs.declared.running.Ran.{Ran}
use Rattle.dm_commands.specs.Running.{IsRan}

-- a run of posters that send these texts, to mirrors that all began with this repository, left this outcome
pub record IsRunOver (texts : List (List (List ℕ))) (base : List Patch) (o : Outcome) : Type 0 where
  pub limits : Limits
  pub text : List ℕ
  pub is_start : IsStart limits text base
  pub starts : List (List Patch)
  pub alike : AllByRecursion (λ start. start ≡ base) starts
  pub policies : List Policy
  pub bound : ℕ
  pub is_run : IsRunOf texts starts policies bound o

-- what is told of such a run, whose mirrors' base is this text, read within these limits
pub record IsRanOver (texts : List (List (List ℕ))) (limits : Limits) (text : List ℕ) (ran : Ran) : Type 0 where
  pub count : ℕ
  pub policies : List Policy
  pub bound : ℕ
  pub is_ran : IsRan texts (replicate count text) limits policies bound ran

-- all mirrors ended with patches of the same names, and one tree
abbrev pub AreAllAlike : Outcome → Type 0
AreAllAlike o = (m n : ℕ) (one other : Repository) → HasRepo o m one → HasRepo o n other → AreAlike one.patches other.patches

-- those with patches of the same names ended with one tree
abbrev pub AreAlikeByName : Outcome → Type 0
AreAlikeByName o = (m n : ℕ) (one other : Repository) → HasRepo o m one → HasRepo o n other → SameMembers (infos_of one.patches) (infos_of other.patches) → AreAlike one.patches other.patches

-- Whether the mirrors of such a run had to end with one tree. Each bundle was accepted and each name stands for one patch in what was sent: they did. This
-- name doesn't. Or each does, and a bundle wasn't accepted: those with the same names did.
abbrev pub IsAgreement : List (List (List ℕ)) → List Patch → Outcome → Agreement → Type 0
IsAgreement texts base o Equal = AllAccepted o × NamesStandWithin standard (sent_texts texts) base × AreAllAlike o
IsAgreement texts base o (TwoMeanings name) = NameIsShared standard (sent_texts texts) base name
IsAgreement texts base o NotAllTaken = (AllAccepted o → ⊥) × NamesStandWithin standard (sent_texts texts) base × AreAlikeByName o
