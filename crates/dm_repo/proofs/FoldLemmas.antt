-- The laws of the repository.
use Rattle.std.proofs.Common.{◌≡◌, List, ◌++◌, refl}
use Rattle.dm_prim.specs.InTurn.{InTurn}
use Rattle.dm_prim.specs.Primitives.{LawfulMap}
use Rattle.dm_named.specs.Patches.{Patch}
use Rattle.dm_bundle.specs.Bundles.{Contents}
use Rattle.dm_repo.specs.Staircases.{Split}
use Rattle.dm_repo.specs.Squares.{Placed, placed, patches, PlacedCommutes, PlacedMerges}
use Rattle.dm_repo.specs.Folds.{Fold, ShallowFold}
use Rattle.dm_repo.specs.Weighing.{IsCommon}
use Rattle.dm_repo.specs.Laws.{SplitFolds, FoldIsOne, MergeApplies, SplitIsOne, SplitStopsOnce, MergeIsOne, MergeStopsOnce}
use Rattle.dm_repo.proofs.Staircases.{runs_on, runs_part, split_runs, split_back, split_one, split_stops, rect_one, merge_stops}
use Rattle.dm_repo.proofs.Trees.{fold_one, runs_lead, grows_fold}
use Rattle.dm_repo.proofs.Placed.{PlacedLeads, placed_back, placed_runs, placed_one, merged_one, patches_placed, without, within}
use Rattle.dm_repo.proofs.Firsts.{split_stops_one, merge_stops_one}
use Rattle.dm_repo.proofs.SiftLemmas.{under_runs}

pub fold_is_one : FoldIsOne
fold_is_one = fold_one

pub split_folds : SplitFolds
split_folds repo b front rest s t = (there, back)
  where
    there : Fold repo t → Fold (patches front ++ patches rest) t
    there f =
        let a = split_runs Placed LawfulMap PlacedCommutes PlacedLeads placed_runs _ s (within (placed repo) (rw (← patches_placed 0 repo) at f.runs)) in
        record { start = f.start; is_root = f.is_root; runs = runs_on (without a.1) (without a.2) }

    back : Fold (patches front ++ patches rest) t → Fold repo t
    back f =
        let a = runs_part (patches front) f.runs in
        let c = split_back Placed LawfulMap PlacedCommutes PlacedLeads placed_runs placed_back _ s (within front a.1) (within rest a.2) in
        record { start = f.start; is_root = f.is_root; runs = rw (patches_placed 0 repo) at (without c) }

-- the tree of the front, and what it and the rest lead to
record Base (repo : List Patch) (front rest : List Placed) (s : LawfulMap) (base : LawfulMap) : Type 0 where
  runs : InTurn PlacedLeads rest base s

base_of : (repo : List Patch) (b : Contents) (front rest : List Placed) (s base : LawfulMap) → Split PlacedCommutes (IsCommon repo b) (placed repo) front rest → Fold repo s → ShallowFold (patches front) base → Base repo front rest s base
base_of repo b front rest s base p fold folds =
    let a = (split_folds repo b front rest p s).0 fold in
    let q = runs_part (patches front) a.runs in
    let e : q.0 ≡ base = fold_one (patches front) q.0 base (record { start = a.start; is_root = a.is_root; runs = q.1 }) (grows_fold (patches front) base folds) in
    record { runs = rw e at (within rest q.2) }

pub merge_applies : MergeApplies
merge_applies repo b policy rest chosen merged skipped f g s fold =
    let p = base_of repo b f.front rest s f.base f.bundle_split.repo_split.split fold f.folds in
    let z = under_runs policy rest chosen merged skipped g p.runs (within chosen (runs_lead f.leads)) in
    (z.0, without z.1)

pub split_is_one : SplitIsOne
split_is_one repo b front rest front1 rest1 s t = split_one Placed PlacedCommutes placed_one (IsCommon repo b) refl s t

pub split_stops_once : SplitStopsOnce
split_stops_once repo b h r s = (
  λ front rest t. split_stops Placed PlacedCommutes placed_one (IsCommon repo b) s t,
  λ h1 r1 t. split_stops_one Placed PlacedCommutes placed_one (IsCommon repo b) s t,
)

pub merge_is_one : MergeIsOne
merge_is_one rest new merged merged1 (rest', g) (rest1, h) = (rect_one Placed PlacedMerges merged_one refl g h).0

pub merge_stops_once : MergeStopsOnce
merge_stops_once rest new n r s = (
  λ merged t. merge_stops Placed PlacedMerges merged_one s t,
  λ n1 r1 t. merge_stops_one Placed PlacedMerges merged_one s t,
)
