-- Where a patch goes past a limit as patches are applied that lead on: nothing else stops them, and the bundle is refused as full. Where none does
-- it is refused so only for too many patches.
use Rattle.std.proofs.Common.{◌++◌, ◌+◌, take, drop, sym, ◌≡◌, ◌≢◌, ℕ, List, ◌∷◌, Option, Some, None, ◌⊎◌, inl, inr, ap, refl, subst, ◌∙◌}
use Rattle.std.specs.FinMap as map
use Rattle.std.specs.Prelude.{MatchOption}
use Rattle.std.proofs.lemmas.List.{map-append}
use Rattle.dm_tree.specs.Trees.{Map, Tree}
use Rattle.dm_tree.specs.declared.fault.TreeFault.{TreeFault}
use Rattle.dm_tree.specs.declared.fault.TreeFault.TheVariants.{NoParent, Occupied, Missing, NotFile, NotDir, NotEmpty, IntoItself, LineRange, OldDiffers, NoLines, TokenThere, TooLarge, TooDeep, NoMemory}
use Rattle.dm_prim.specs.Applying.{AdmitsFault}
use Rattle.dm_prim.specs.Limits.{IsPastLimits}
use Rattle.dm_prim.specs.InTurn.{InTurn, step}
use Rattle.dm_prim.specs.Primitives.{Prim, Applies, LawfulMap, Leads}
use Rattle.dm_named.specs.Patches.{Patch}
use Rattle.dm_bundle.specs.Bundles.{Contents}
use Rattle.dm_repo.specs.declared.misfit.Misfit.{Misfit}
use Rattle.dm_repo.specs.declared.policy.Policy.{Policy}
use Rattle.dm_repo.specs.declared.refusal.Refusal.TheVariants.{Full}
use Rattle.dm_repo.specs.Folds.{IsRoot, GoesPastLimits, PatchLeads, PatchLeadsShallowly, PatchStops, ShallowFold}
use Rattle.dm_repo.specs.Misfits.{FaultsAt, StopsWith}
use Rattle.dm_repo.specs.Overflows.{FrontOverflows, MergedOverflows, MergesTooMany, OverflowsWith}
use Rattle.dm_repo.specs.Repositories.{IsRepo}
use Rattle.dm_repo.specs.Sifting.{MergesUnder}
use Rattle.dm_repo.specs.Squares.{Placed, patches}
use Rattle.dm_repo.specs.Weighing.{Fits, FrontIsFull, RunsPastLimits, IsBundleSplit, MergeIsFull, RefusesBundle}
use Rattle.std.proofs.lemmas.Option.{slice_get_within, get_or_from_slice_get}
use Rattle.dm_repo.proofs.RowSteps.{around}
use Rattle.dm_repo.proofs.ClashLemmas.{fits_one}
use Rattle.dm_repo.proofs.Depths.{front_leads}
use Rattle.dm_repo.proofs.FoldLemmas.{merge_applies}
use Rattle.dm_repo.proofs.Making.{fit_stops_all, front_stops, grows_one}
use Rattle.dm_repo.proofs.MisfitLemmas.{bundle_one}
use Rattle.dm_repo.proofs.OneAnswer.{past_stops}
use Rattle.dm_repo.proofs.SiftLemmas.{under_one}
use Rattle.dm_repo.proofs.Staircases.{runs_part}
use Rattle.dm_repo.proofs.Trees.{does_one, grows_fold, leads_one, runs_go, runs_lead, runs_one}

-- a primitive that applies has no other fault
only_past : (p : Prim) (m t : Map) (e : TreeFault) → e ≢ NoMemory → AdmitsFault p m e → Applies p m t → (e ≡ TooDeep) ⊎ (e ≡ TooLarge)
only_past p m t NoMemory n r a = absurd (n refl)
only_past p m t TooDeep n r a = inl refl
only_past p m t TooLarge n r a = inr refl
only_past p m t NoParent n r a = absurd (r t a)
only_past p m t Occupied n r a = absurd (r t a)
only_past p m t Missing n r a = absurd (r t a)
only_past p m t NotFile n r a = absurd (r t a)
only_past p m t NotDir n r a = absurd (r t a)
only_past p m t NotEmpty n r a = absurd (r t a)
only_past p m t IntoItself n r a = absurd (r t a)
only_past p m t LineRange n r a = absurd (r t a)
only_past p m t OldDiffers n r a = absurd (r t a)
only_past p m t NoLines n r a = absurd (r t a)
only_past p m t TokenThere n r a = absurd (r t a)

-- the primitives of a patch before the one with a fault, that one, and those after it
parted_at : {x : Patch} {s : LawfulMap} {k : ℕ} {tree : Tree} {e : TreeFault} (f : FaultsAt x s k tree e) → x.prims ≡ take k x.prims ++ f.prim ∷ drop (k + 1) x.prims
parted_at {x} {k = k} f = around x.prims k f.prim (slice_get_within x.prims k f.prim f.prim_at) (sym (get_or_from_slice_get x.prims k f.prim f.prim f.prim_at))

-- the primitive of a patch that leads on applies
patch_applies : {x : Patch} {s t : LawfulMap} {k : ℕ} {tree : Tree} {e : TreeFault} (f : FaultsAt x s k tree e) → PatchLeads x s t → (m : Map) × Applies f.prim (map.get tree) m
patch_applies {x} {s} {t} {k} {tree} f r = go (runs_part (take k x.prims) (subst (λ z. InTurn Leads z s t) (parted_at f) r))
  where
    go : (v : LawfulMap) × InTurn Leads (take k x.prims) s v × InTurn Leads (f.prim ∷ drop (k + 1) x.prims) v t → (m : Map) × Applies f.prim (map.get tree) m
    go (v, i, step {u = w} j l) =
        let d : v ≡ f.reached = runs_one does_one i (runs_go f.leads) in
        let h : Leads f.prim f.reached w = rw d at j in
        (w.map, rw f.is_map at h.applies)

module _ (repo : List Patch) (b : Contents) where
  -- a front that leads on isn't full
  front_none : {front rest new : List Placed} {s t : LawfulMap} → IsBundleSplit repo b front rest new → IsRoot s → InTurn PatchLeadsShallowly (patches front) s t → FrontIsFull repo b → ⊥
  front_none {front} {s} p r leads (front1, rest1, new1, p1, (start, root, deep)) =
      let e : front ≡ front1 = (bundle_one repo b p p1).0 in
      front_stops root (past_stops deep.1) (record { start = s; is_root = r; runs = rw e at leads })

  -- where the merged patches lead on there are too many of them, or nothing is full
  merged_none : (policy : Policy) (rest new merged : List Placed) (skipped : ℕ) {s t : LawfulMap} → Fits repo b rest new → MergesUnder policy rest new merged skipped → ShallowFold repo s →
      InTurn PatchLeadsShallowly (patches merged) s t → MergeIsFull repo b policy → MergesTooMany repo b policy
  merged_none policy rest new merged skipped fits g t leads (rest1, new1, merged1, skipped1, fits1, g1, inl many) =
      record { rest = rest1; new = new1; merged = merged1; skipped = skipped1; fits = fits1; merges = g1; are_many = many }
  merged_none policy rest new merged skipped {s} fits g t leads (rest1, new1, merged1, skipped1, fits1, g1, inr (tree, folds, deep)) =
      let e = fits_one repo b fits fits1 in
      let h : MergesUnder policy rest new merged1 skipped1 = rw (e.0, e.1) g1 in
      let m : merged ≡ merged1 = (under_one policy rest new merged merged1 skipped skipped1 g h).0 in
      let d : s ≡ tree = grows_one repo t folds in
      absurd (fit_stops_all (past_stops deep.1) (rw (d, m) at leads))

  -- a bundle that is refused as full is so by its front, or once merged
  pub only_many : (policy : Policy) → (FrontIsFull repo b → ⊥) → (MergeIsFull repo b policy → MergesTooMany repo b policy) → RefusesBundle repo b policy Full → MergesTooMany repo b policy
  only_many policy front merge (inl f) = absurd (front f)
  only_many policy front merge (inr m) = merge m

module _ {Z : Type 0} where
  -- what stops patches that lead on
  stops_past : {s t : LawfulMap} {xs : List Placed} {m : Misfit Z} → StopsWith s xs m → InTurn PatchLeads (patches xs) s t → OverflowsWith s xs m
  stops_past {s} {t} {xs} {m} w r =
      let a = go (runs_part (patches w.before) (rw (ap patches w.at ∙ map-append (λ y. y.1) w.before ((m.place, m.patch) ∷ w.after)) at r)) in
      record { stops = w; applies = a; is_past = only_past w.faults.prim (map.get m.tree) a.0 m.fault w.is_told w.faults.admits a.1 }
    where
      go : (v : LawfulMap) × InTurn PatchLeads (patches w.before) s v × InTurn PatchLeads (m.patch ∷ patches w.after) v t → (z : Map) × Applies w.faults.prim (map.get m.tree) z
      go (v, i, step {u} j l) =
          let d : v ≡ w.tree = runs_one leads_one i (runs_lead w.leads) in
          let h : PatchLeads m.patch w.tree u = rw d at j in
          patch_applies w.faults h

  goes_past : {s : LawfulMap} {xs : List Placed} {m : Misfit Z} → OverflowsWith s xs m → RunsPastLimits s xs
  goes_past {m} w =
      let f = w.stops.faults in
      let stops : PatchStops GoesPastLimits m.patch w.stops.tree =
      record { before = take m.prim m.patch.prims; prim = f.prim; after = drop (m.prim + 1) m.patch.prims; tree = f.reached; at = parted_at f; leads = f.leads; stops = rw f.is_map (there w.is_past) } in
      ((m.place, m.patch), record { before = w.stops.before; after = w.stops.after; tree = w.stops.tree; at = w.stops.at; leads = w.stops.leads; stops = stops })
    where
      there : (m.fault ≡ TooDeep) ⊎ (m.fault ≡ TooLarge) → (t : Map) × Applies w.stops.faults.prim (map.get m.tree) t × IsPastLimits w.stops.faults.prim (map.get m.tree) t
      there (inl e) = let a = subst (AdmitsFault w.stops.faults.prim (map.get m.tree)) e w.stops.faults.admits in (a.0, a.1, inl a.2)
      there (inr e) = let a = subst (AdmitsFault w.stops.faults.prim (map.get m.tree)) e w.stops.faults.admits in (w.applies.0, w.applies.1, inr (a w.applies.0 w.applies.1))

  -- what is found as patches are applied
  abbrev Finds : LawfulMap → List Placed → Option (Misfit Z) → Type 0
  Finds s xs found = MatchOption found ((t : LawfulMap) × InTurn PatchLeadsShallowly (patches xs) s t) (λ m. StopsWith s xs m)

  module _ (repo : List Patch) (b : Contents) where
    pub front_told : {front rest new : List Placed} {s : LawfulMap} → IsRepo repo → IsBundleSplit repo b front rest new → IsRoot s → (found : Option (Misfit Z)) → Finds s front found →
        MatchOption found (FrontIsFull repo b → ⊥) (FrontOverflows repo b)
    front_told ok p r None f = front_none repo b p r f.1
    front_told {front} {rest} {new} {s} ok p r (Some m) f =
        record { front = front; rest = rest; new = new; bundle_split = p; start = s; is_root = r; overflows = stops_past f (front_leads repo b ok p r).1 }

    pub merged_told : (policy : Policy) (rest new merged : List Placed) (skipped : ℕ) {s : LawfulMap} → Fits repo b rest new → MergesUnder policy rest new merged skipped → ShallowFold repo s →
        (found : Option (Misfit Z)) → Finds s merged found → MatchOption found (MergeIsFull repo b policy → MergesTooMany repo b policy) (MergedOverflows repo b policy)
    merged_told policy rest new merged skipped fits g t None f = merged_none repo b policy rest new merged skipped fits g t f.1
    merged_told policy rest new merged skipped {s} fits g t (Some m) f = record {
      rest = rest;
      new = new;
      merged = merged;
      skipped = skipped;
      fits = fits;
      merges = g;
      tree = s;
      folds = t;
      overflows = stops_past f (merge_applies repo b policy rest new merged skipped fits g s (grows_fold repo s t)).1;
    }

    pub front_refuses : (policy : Policy) {m : Misfit Z} → FrontOverflows repo b m → RefusesBundle repo b policy Full
    front_refuses policy i = inl (i.front, i.rest, i.new, i.bundle_split, (i.start, i.is_root, goes_past i.overflows))

    pub merged_refuses : (policy : Policy) {m : Misfit Z} → MergedOverflows repo b policy m → RefusesBundle repo b policy Full
    merged_refuses policy i = inr (i.rest, i.new, i.merged, i.skipped, i.fits, i.merges, inr (i.tree, i.folds, goes_past i.overflows))
