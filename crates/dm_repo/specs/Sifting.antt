-- What becomes of patches to merge where some of them conflict: they may be skipped (`darcs apply --skip-conflicts`). Which patches are skipped
-- with them, by squares of patches from left to right, is this project's rule.
use Rattle.std.specs.Prelude.{◌≡◌, ◌≢◌, ℕ, List, [], ◌∷◌, ◌++◌, length}
use Rattle.dm_repo.specs.declared.policy.Policy.{Policy}
use Rattle.dm_repo.specs.declared.policy.Policy.TheVariants.{Refuse, Skip}
use Rattle.dm_repo.specs.Staircases.{Passes}
use Rattle.dm_repo.specs.Merging.{MergesPast, MergePastStops, Merge, MergeStops}
use Rattle.dm_repo.specs.Squares.{Placed, PlacedCommutes, PlacedMerges}

-- n passes all that were skipped, the nearest first, and is then merged with all of rest: it becomes n', and leaves them as skipped' and rest'
pub record MergesOver (skipped rest : List Placed) (n n' : Placed) (skipped' rest' : List Placed) : Type 0 where
  pub between : Placed
  pub passes_skipped : Passes PlacedCommutes skipped n between skipped'
  pub merges_past : MergesPast PlacedMerges rest between n' rest'

-- n can't be merged so
abbrev pub MergesNowhere : List Placed → List Placed → Placed → Type 0
MergesNowhere skipped rest n = (n' : Placed) (skipped' rest' : List Placed) → MergesOver skipped rest n n' skipped' rest' → ⊥

-- new is sifted from left to right, after some that were skipped and beside a rest: `Sifts skipped rest new merged left` says which of new are
-- merged, as they are then, and which patches are skipped in the end. One that can be merged over the skipped ones is merged, and the next meets
-- these and the rest as it left them; one that can't joins the end of the skipped ones as it stands, and changes nothing
pub data Sifts : List Placed → List Placed → List Placed → List Placed → List Placed → Type 0 where
  ends : {skipped rest : List Placed} → Sifts skipped rest [] [] skipped
  merges : {n n' : Placed} {skipped skipped' rest rest' new merged left : List Placed} → MergesOver skipped rest n n' skipped' rest' →
      Sifts skipped' rest' new merged left → Sifts skipped rest (n ∷ new) (n' ∷ merged) left
  skips : {n : Placed} {skipped rest new merged left : List Placed} → MergesNowhere skipped rest n →
      Sifts (skipped ++ n ∷ []) rest new merged left → Sifts skipped rest (n ∷ new) merged left

-- these of new are merged, and so many are skipped: where conflicts are refused all are merged; where they are skipped new is sifted, and some are
-- merged
abbrev pub MergesUnder : Policy → List Placed → List Placed → List Placed → ℕ → Type 0
MergesUnder Refuse rest new merged count = Merge PlacedMerges rest new merged × (count ≡ 0)
MergesUnder Skip rest new merged count = (merged ≢ []) × ((skipped : List Placed) × Sifts [] rest new merged skipped × (count ≡ length skipped))

-- the bundle is refused since n conflicts with r: where conflicts are refused the two are the first pair that can't be merged; where they are
-- skipped none is merged, n is the first of new, and r the first of the rest to stop it
abbrev pub ConflictsUnder : Policy → List Placed → List Placed → Placed → Placed → Type 0
ConflictsUnder Refuse rest new n r = MergeStops PlacedMerges rest new n r
ConflictsUnder Skip rest new n r =
    (after : List Placed) × (skipped : List Placed) × (new ≡ n ∷ after) × MergePastStops PlacedMerges rest n r × Sifts [] rest new [] skipped
