-- A mirror that begins at a tag.
use Rattle.std.proofs.Common.{◌≡◌, ◌≢◌, ℕ, List, [], refl}
use Rattle.dm_named.specs.Patches.{Patch}
use Rattle.dm_repo.specs.declared.policy.Policy.TheVariants.{Refuse}
use Rattle.dm_repo.specs.declared.refusal.Refusal.{Refusal}
use Rattle.dm_repo.specs.declared.refusal.Refusal.TheVariants as refusals
use Rattle.dm_repo.specs.Laws.{Merged, NothingNew, Refused}
use Rattle.dm_repo.specs.Weighing.{IsMergeOf, IsNothingNew, RefusesBundle}
use Rattle.dm_repo.proofs.OneAnswer.{weighing_one}
use Rattle.dm_begin.specs.Alike.{all_of}
use Rattle.dm_begin.proofs.WholeLemmas.{whole_is_taken}
use Rattle.dm_commands.specs.Beginning.{IsWhole}

-- an empty repository takes all patches of one
module _ (patches : List Patch) (w : IsWhole patches) where
  taken : IsMergeOf [] (all_of patches) Refuse patches 0
  taken = whole_is_taken patches Refuse w.is_repo w.some w.few

  never_refused : (why : Refusal) → why ≢ refusals.NoMemory → RefusesBundle [] (all_of patches) Refuse why → ⊥
  never_refused why other r =
      let e = weighing_one [] (all_of patches) Refuse (Refused why) (Merged patches 0) (λ e. other (cc)) (λ e. absurd (cc)) r taken in
      absurd (cc)

  pub something_new : IsNothingNew [] (all_of patches) → ⊥
  something_new n =
      let e = weighing_one [] (all_of patches) Refuse NothingNew (Merged patches 0) (λ e. absurd (cc)) (λ e. absurd (cc)) n taken in
      absurd (cc)

  pub merged_whole : (merged : List Patch) (skipped : ℕ) → IsMergeOf [] (all_of patches) Refuse merged skipped → merged ≡ patches
  merged_whole merged skipped m =
      let e = weighing_one [] (all_of patches) Refuse (Merged merged skipped) (Merged patches 0) (λ e. absurd (cc)) (λ e. absurd (cc)) m taken in
      cc

  pub short_of_memory : (why : Refusal) → RefusesBundle [] (all_of patches) Refuse why → why ≡ refusals.NoMemory
  short_of_memory why =
      elim why as (λ w. RefusesBundle [] (all_of patches) Refuse w → w ≡ refusals.NoMemory) [
        | refusals.MissingContext c ↦ λ r. absurd (never_refused (refusals.MissingContext c) (λ e. absurd (cc e)) r)
        | refusals.MissingDependency n d ↦ λ r. absurd (never_refused (refusals.MissingDependency n d) (λ e. absurd (cc e)) r)
        | refusals.ContextDepends h k ↦ λ r. absurd (never_refused (refusals.ContextDepends h k) (λ e. absurd (cc e)) r)
        | refusals.HeldDepends b n ↦ λ r. absurd (never_refused (refusals.HeldDepends b n) (λ e. absurd (cc e)) r)
        | refusals.DoesNotFit n ↦ λ r. absurd (never_refused (refusals.DoesNotFit n) (λ e. absurd (cc e)) r)
        | refusals.Conflicts n h ↦ λ r. absurd (never_refused (refusals.Conflicts n h) (λ e. absurd (cc e)) r)
        | refusals.Full ↦ λ r. absurd (never_refused refusals.Full (λ e. absurd (cc e)) r)
        | refusals.NoMemory ↦ λ r. refl
      ]
