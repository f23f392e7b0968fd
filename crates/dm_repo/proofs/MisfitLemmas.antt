-- Where a new patch doesn't fit: what is told of it is why the bundle is refused, and where nothing is told the bundle isn't refused so.
use Rattle.std.proofs.Common.{◌≡◌, ℕ, List, [], ◌∷◌, ◌++◌, Option, Some, None, refl}
use Rattle.std.specs.Prelude.{IfNone, IfSome, MatchOption}
use Rattle.std.proofs.lemmas.List.{map-append}
use Rattle.dm_tree.specs.Trees.{Tree}
use Rattle.dm_prim.specs.InTurn.{InTurn, done, step}
use Rattle.dm_prim.specs.Primitives.{LawfulMap}
use Rattle.dm_named.specs.Patches.{Patch}
use Rattle.dm_bundle.specs.Bundles.{Contents}
use Rattle.dm_repo.specs.declared.misfit.Misfit.{Misfit}
use Rattle.dm_repo.specs.declared.policy.Policy.{Policy}
use Rattle.dm_repo.specs.declared.refusal.Refusal.TheVariants.{DoesNotFit}
use Rattle.dm_repo.specs.Folds.{IsStopped, PatchLeadsShallowly, ShallowFold}
use Rattle.dm_repo.specs.Misfits.{IsBasis, IsMisfit, StopsWith}
use Rattle.dm_repo.specs.Repositories.{IsMapOf}
use Rattle.dm_repo.specs.Squares.{Placed, patches, PlacedCommutes}
use Rattle.dm_repo.specs.Weighing.{FitStops, IsBundleSplit, IsCommon, IsHeld, IsNothingNew, RefusesBundle}
use Rattle.dm_repo.proofs.Applying.{fault_stops}
use Rattle.dm_repo.proofs.Making.{fit_stops_all, grows_one}
use Rattle.dm_repo.proofs.Placed.{placed_one}
use Rattle.dm_repo.proofs.Staircases.{runs_on, split_one}

-- one more patch that leads on
pub leads_also : (xs : List Placed) (x : Placed) {s t u : LawfulMap} → InTurn PatchLeadsShallowly (patches xs) s t → PatchLeadsShallowly x.1 t u → InTurn PatchLeadsShallowly (patches (xs ++ x ∷ [])) s u
leads_also xs x r h = rw (map-append (λ (y : Placed). y.1) xs (x ∷ [])) (runs_on r (step h done))

-- a bundle is split in one way
pub bundle_one : (repo : List Patch) (b : Contents) {front rest new front1 rest1 new1 : List Placed} → IsBundleSplit repo b front rest new → IsBundleSplit repo b front1 rest1 new1 → (front ≡ front1) × (new ≡ new1)
bundle_one repo b s t = (
  (split_one Placed PlacedCommutes placed_one (IsCommon repo b) refl s.repo_split.split t.repo_split.split).0,
  (split_one Placed PlacedCommutes placed_one (IsHeld repo) refl s.split t.split).1,
)

module _ (repo : List Patch) (b : Contents) where
  -- where the patches to merge lead on from the tree of the front, none of them doesn't fit
  fits_none : {front rest new : List Placed} {base t : LawfulMap} → IsBundleSplit repo b front rest new → ShallowFold (patches front) base → InTurn PatchLeadsShallowly (patches new) base t →
      (policy : Policy) (n : ℕ) → RefusesBundle repo b policy (DoesNotFit n) → ⊥
  fits_none {front} {new} {base} {t} split folds leads policy n (front1, rest1, new1, split1, (base1, x, e, folds1, stops)) =
      let p = bundle_one repo b split split1 in
      let q : base ≡ base1 = grows_one (patches front) folds (rw (← p.0) at folds1) in
      fit_stops_all stops (rw (p.1, q) at leads)

  pub nothing_misfits : IsNothingNew repo b → (policy : Policy) (n : ℕ) → RefusesBundle repo b policy (DoesNotFit n) → ⊥
  nothing_misfits nothing policy n (front, rest, new, split, r) = split.repo_split.prerequisites.is_new nothing.all_held

  module _ {Z : Type 0} where
    -- what is told stops the patches
    stops_there : {s : LawfulMap} {xs : List Placed} {m : Misfit Z} → StopsWith s xs m → FitStops IsStopped s xs (m.place, m.patch)
    stops_there w = record { before = w.before; after = w.after; tree = w.tree; at = w.at; leads = w.leads; stops = fault_stops w.is_told w.faults }

    pub misfit_refuses : (m : Misfit Z) → IsMisfit repo b m → (policy : Policy) → RefusesBundle repo b policy (DoesNotFit m.place)
    misfit_refuses m i policy = (i.front, i.rest, i.new, i.bundle_split, (i.base, (m.place, m.patch), refl, i.folds, stops_there i.stops))

    -- what is found from the tree of the front
    abbrev Finds : Tree → List Placed → Option (Misfit Z) → Type 0
    Finds tree new found = (s : LawfulMap) → IsMapOf tree s → MatchOption found ((t : LawfulMap) × InTurn PatchLeadsShallowly (patches new) s t) (λ m. StopsWith s new m)

    module _ (tree : Tree) (rest new : List Placed) (basis : IsBasis repo b tree rest new) where
      pub found_told : (found : Option (Misfit Z)) → Finds tree new found → IfSome found (IsMisfit repo b)
      found_told None f = tt
      found_told (Some m) f = let t = basis.2 in record { front = basis.0; rest = rest; new = new; bundle_split = basis.1; base = t.0; folds = t.2; stops = f t.0 t.1 }

      pub found_refuses : (found : Option (Misfit Z)) → Finds tree new found → IfSome found (λ m. (policy : Policy) → RefusesBundle repo b policy (DoesNotFit m.place))
      found_refuses None f = tt
      found_refuses (Some m) f = misfit_refuses m (found_told (Some m) f)

      pub none_misfits : (found : Option (Misfit Z)) → Finds tree new found → IfNone found ((policy : Policy) (n : ℕ) → RefusesBundle repo b policy (DoesNotFit n) → ⊥)
      none_misfits None f = let t = basis.2 in let l = f t.0 t.1 in fits_none basis.1 t.2 l.1
      none_misfits (Some m) f = tt
