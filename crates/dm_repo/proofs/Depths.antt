-- What stops patches that lead on goes past a limit.
use Rattle.std.proofs.Common.{◌≡◌, ℕ, List, ◌∷◌, inl, inr, ap, ◌∙◌}
use Rattle.std.proofs.lemmas.List.{map-append}
use Rattle.dm_prim.specs.InTurn.{InTurn, step}
use Rattle.dm_prim.specs.Primitives.{LawfulMap, Leads}
use Rattle.dm_named.specs.Patches.{Patch}
use Rattle.dm_bundle.specs.Bundles.{Contents}
use Rattle.dm_repo.specs.Folds.{IsRoot, PatchLeads, GoesPastLimits, IsStopped, PatchStops, ShallowFold}
use Rattle.dm_repo.specs.declared.policy.Policy.{Policy}
use Rattle.dm_repo.specs.Sifting.{MergesUnder}
use Rattle.dm_repo.specs.Squares.{Placed, patches}
use Rattle.dm_repo.specs.Repositories.{IsRepo}
use Rattle.dm_repo.specs.Weighing.{FitStops, RunsPastLimits, IsBundleSplit, Fits, FrontIsFull, MergeIsFull}
use Rattle.dm_repo.proofs.Staircases.{runs_part}
use Rattle.dm_repo.proofs.Trees.{root_one, runs_one, does_one, leads_one, runs_go, runs_lead, grows_fold}
use Rattle.dm_repo.proofs.FoldLemmas.{split_folds, merge_applies}

patch_only_past : {x : Patch} {s t : LawfulMap} → PatchStops IsStopped x s → PatchLeads x s t → PatchStops GoesPastLimits x s
patch_only_past {x} {s} {t} q r = go (runs_part q.before (rw q.at at r))
  where
    go : (v : LawfulMap) × InTurn Leads q.before s v × InTurn Leads (q.prim ∷ q.after) v t → PatchStops GoesPastLimits x s
    go (v, i, step {u = w} j k) =
        let e : v ≡ q.tree = runs_one does_one i (runs_go q.leads) in
        let h : Leads q.prim q.tree w = rw e at j in
        record { before = q.before; prim = q.prim; after = q.after; tree = q.tree; at = q.at; leads = q.leads; stops = (w.map, h.applies, q.stops w.map h.applies) }

pub runs_past : {s t : LawfulMap} {xs : List Placed} (x : Placed) → FitStops IsStopped s xs x → InTurn PatchLeads (patches xs) s t → RunsPastLimits s xs
runs_past {s} {t} {xs} x f r = go (runs_part (patches f.before) (rw (ap patches f.at ∙ map-append (λ y. y.1) f.before (x ∷ f.after)) at r))
  where
    go : (v : LawfulMap) × InTurn PatchLeads (patches f.before) s v × InTurn PatchLeads (x.1 ∷ patches f.after) v t → RunsPastLimits s xs
    go (v, i, step {u = w} j k) =
        let e : v ≡ f.tree = runs_one leads_one i (runs_lead f.leads) in
        let h : PatchLeads x.1 f.tree w = rw e at j in
        (x, record { before = f.before; after = f.after; tree = f.tree; at = f.at; leads = f.leads; stops = patch_only_past f.stops h })

-- the front of a repository leads on from the root alone
pub front_leads : (repo : List Patch) (b : Contents) {front rest new : List Placed} {s : LawfulMap} → IsRepo repo → IsBundleSplit repo b front rest new → IsRoot s → (t : LawfulMap) × InTurn PatchLeads (patches front) s t
front_leads repo b {front} {rest} {s} ok p r =
    let a = (split_folds repo b front rest p.repo_split.split ok.tree).0 (grows_fold repo ok.tree ok.folds) in
    let e : a.start ≡ s = root_one a.start s a.is_root r in
    let q = runs_part (patches front) (rw e at a.runs) in
    (q.0, q.1)

pub front_is_full : (repo : List Patch) (b : Contents) {front rest new : List Placed} {s : LawfulMap} (x : Placed) → IsRepo repo → IsBundleSplit repo b front rest new → IsRoot s → FitStops IsStopped s front x → FrontIsFull repo b
front_is_full repo b {front} {rest} {new} {s} x ok p r f = (front, rest, new, p, (s, r, runs_past x f (front_leads repo b ok p r).1))

-- and what is merged leads on from its tree
pub merge_is_full : (repo : List Patch) (b : Contents) (policy : Policy) {rest new merged : List Placed} (skipped : ℕ) {s : LawfulMap} (x : Placed) →
    Fits repo b rest new → MergesUnder policy rest new merged skipped → ShallowFold repo s → FitStops IsStopped s merged x → MergeIsFull repo b policy
merge_is_full repo b policy {rest} {new} {merged} skipped {s} x fits m g f =
    let a = merge_applies repo b policy rest new merged skipped fits m s (grows_fold repo s g) in
    (rest, new, merged, skipped, fits, m, inr (s, g, runs_past x f a.1))
