-- The tree of a repository, patch by patch.
use Rattle.std.proofs.Common.{◌≡◌, ℕ, zero, suc, ◌<◌, ◌≤◌, List, [], ◌∷◌, ◌++◌, refl, ap, ◌∙◌, arith}
use Rattle.std.specs.FinMap as map
use Rattle.std.specs.FinMap.{get-insert, get-empty}
use Rattle.std.proofs.lemmas.List.{map-append}
use Rattle.dm_tree.specs.Trees as trees
use Rattle.dm_tree.specs.Trees.{Dir, IsLawful, path_cmp}
use Rattle.dm_tree.proofs.Trees.{path_total}
use Rattle.dm_prim.specs.Primitives.{LawfulMap}
use Rattle.dm_prim.specs.InTurn.{InTurn, done, step}
use Rattle.dm_named.specs.Patches.{Patch}
use Rattle.dm_repo.specs.Squares.{Placed, patches}
use Rattle.dm_repo.specs.Weighing.{FitStops}
use Rattle.dm_repo.specs.Folds.{IsRoot, PatchLeadsShallowly, IsStopped, ShallowFold}
use Rattle.dm_repo.specs.Repositories.{IsMapOf, IsTreeOf}
use Rattle.dm_repo.proofs.Staircases.{runs_on, runs_part}
use Rattle.dm_repo.proofs.Trees.{root_one, runs_one, goes_all_one, fold_one, grows_fold}
use Rattle.dm_repo.proofs.Applying.{patch_stops_all}

-- a new tree is the root alone
pub new_root : (t : trees.Tree) → t ≡ map.insert map.empty [] Dir → IsLawful (map.get t) → (s : LawfulMap) × IsMapOf t s × IsRoot s
new_root t e l =
    (record { map = map.get t; lawful = l }, refl, record { root = l.root; alone = λ n p. ap (λ z. map.get z (n ∷ p)) e ∙ get-insert path_total map.empty [] Dir (n ∷ p) ∙ get-empty path_cmp (n ∷ p) })

pub new_makes : (t : trees.Tree) → t ≡ map.insert map.empty [] Dir → IsLawful (map.get t) → IsTreeOf [] t
new_makes t e l = let r = new_root t e l in (r.0, r.1, record { start = r.0; is_root = r.2; runs = done })

-- where a patch leads nowhere, the list leads nowhere
pub fit_stops_all : {s t : LawfulMap} {xs : List Placed} {x : Placed} → FitStops IsStopped s xs x → InTurn PatchLeadsShallowly (patches xs) s t → ⊥
fit_stops_all {s} {t} {x} f r = go (runs_part (patches f.before) (rw (ap patches f.at ∙ map-append (λ y. y.1) f.before (x ∷ f.after)) at r))
  where
    go : (v : LawfulMap) × InTurn PatchLeadsShallowly (patches f.before) s v × InTurn PatchLeadsShallowly (x.1 ∷ patches f.after) v t → ⊥
    go (v, q, step {u = w} i j) = let e : v ≡ f.tree = runs_one goes_all_one q f.leads in patch_stops_all f.stops (rw e at i)

pub front_stops : {s t : LawfulMap} {xs : List Placed} {x : Placed} → IsRoot s → FitStops IsStopped s xs x → ShallowFold (patches xs) t → ⊥
front_stops {s} r f g = let e : g.start ≡ s = root_one g.start s g.is_root r in fit_stops_all f (rw e at g.runs)

-- a list of patches makes one tree
pub grows_one : (xs : List Patch) {s t : LawfulMap} → ShallowFold xs s → ShallowFold xs t → s ≡ t
grows_one xs {s} {t} g h = fold_one xs s t (grows_fold xs s g) (grows_fold xs t h)

-- what is appended to what was made
pub makes_on : (xs ys : List Patch) {s t : LawfulMap} → ShallowFold xs s → InTurn PatchLeadsShallowly ys s t → ShallowFold (xs ++ ys) t
makes_on xs ys g r = record { start = g.start; is_root = g.is_root; runs = runs_on g.runs r }

pub not_below : (a b : ℕ) → (a < b → ⊥) → b ≤ a
not_below a zero n = omega arith
not_below zero (suc b) n = absurd (n (omega arith))
not_below (suc a) (suc b) n = let l = not_below a b (λ h. n (omega (arith, h))) in omega (arith, l)
