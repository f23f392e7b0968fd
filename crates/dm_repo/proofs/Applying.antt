-- One more patch, or one more primitive, of a list that is applied in turn.
use Rattle.std.proofs.Common.{◌≡◌, ◌≢◌, ℕ, ◌+◌, ◌<◌, Bool, false, List, ◌∷◌, length, map, take, drop, get_or, option_map, inl, inr, Result, Ok, Err, MatchBool, ap, refl, sym, subst, ◌∙◌}
use Rattle.std.specs.Prelude.{IfOk}
use Rattle.std.proofs.lemmas.List.{take_more, take-map, map_push}
use Rattle.std.proofs.lemmas.Option.{slice_get-map, slice_get_read, slice_get_within, get_or_from_slice_get}
use Rattle.std.specs.FinMap as finmap
use Rattle.dm_tree.specs.Trees.{Tree, IsLawful, Deep}
use Rattle.dm_tree.specs.declared.fault.TreeFault.{TreeFault}
use Rattle.dm_tree.specs.declared.fault.TreeFault.TheVariants.{NoParent, Occupied, Missing, NotFile, NotDir, NotEmpty, IntoItself, LineRange, OldDiffers, NoLines, TokenThere, TooLarge, TooDeep, NoMemory}
use Rattle.dm_prim.specs.Primitives.{Prim, LawfulMap}
use Rattle.dm_prim.specs.Applying.{AdmitsFault, Applied, FaultsAs}
use Rattle.dm_prim.specs.InTurn.{InTurn, done, step}
use Rattle.dm_prim.proofs.ApplyLemmas.{past_none}
use Rattle.dm_prim.proofs.Single.{applies_one, same_map}
use Rattle.dm_named.specs.Patches.{Patch}
use Rattle.dm_repo.specs.Folds.{LeadsShallowly, PatchLeadsShallowly, IsStopped, PatchStops}
use Rattle.dm_repo.specs.Squares.{Placed, patches}
use Rattle.dm_repo.specs.Weighing.{FitStops}
use Rattle.dm_repo.specs.Misfits.{FaultsAt}
use Rattle.dm_repo.specs.Repositories.{IsMapOf}
use Rattle.dm_repo.proofs.Staircases.{runs_on, runs_part}
use Rattle.dm_repo.proofs.Trees.{runs_one, goes_one}
use Rattle.dm_repo.proofs.RowSteps.{around}

-- a fault other than out of memory stops the primitive
stopped : (p : Prim) (s : LawfulMap) (e : TreeFault) → e ≢ NoMemory → AdmitsFault p s.map e → IsStopped p s
stopped p s NoMemory n r t h = absurd (n refl)
stopped p s TooDeep n (m, a, d) t h = inl (subst Deep (same_map m t (applies_one p s.map m t s.lawful a h)) d)
stopped p s TooLarge n r t h = inr (r t h)
stopped p s NoParent n r t h = absurd (r t h)
stopped p s Occupied n r t h = absurd (r t h)
stopped p s Missing n r t h = absurd (r t h)
stopped p s NotFile n r t h = absurd (r t h)
stopped p s NotDir n r t h = absurd (r t h)
stopped p s NotEmpty n r t h = absurd (r t h)
stopped p s IntoItself n r t h = absurd (r t h)
stopped p s LineRange n r t h = absurd (r t h)
stopped p s OldDiffers n r t h = absurd (r t h)
stopped p s NoLines n r t h = absurd (r t h)
stopped p s TokenThere n r t h = absurd (r t h)

-- the primitives up to the one with a fault lead shallowly, and the fault may come there
pub fault_there : {x : Patch} {s : LawfulMap} {k : ℕ} {t : Tree} {e : TreeFault} → FaultsAt x s k t e → PatchStops (λ p m. AdmitsFault p m.map e) x s
fault_there {x} {k} f = record {
  before = take k x.prims;
  prim = f.prim;
  after = drop (k + 1) x.prims;
  tree = f.reached;
  at = around x.prims k f.prim (slice_get_within x.prims k f.prim f.prim_at) (sym (get_or_from_slice_get x.prims k f.prim f.prim f.prim_at));
  leads = f.leads;
  stops = rw f.is_map f.admits;
}

-- and it stops the patch
pub fault_stops : {x : Patch} {s : LawfulMap} {k : ℕ} {t : Tree} {e : TreeFault} → e ≢ NoMemory → FaultsAt x s k t e → PatchStops IsStopped x s
fault_stops {e} n f =
    let q = fault_there f in
    record { before = q.before; prim = q.prim; after = q.after; tree = q.tree; at = q.at; leads = q.leads; stops = stopped q.prim q.tree e n q.stops }

pub refused_stops : {E : Type 0} (G : Type 0) {x : Patch} {s : LawfulMap} {k : ℕ} {t : Tree} (e : TreeFault) (r : Result Bool E) → FaultsAt x s k t e → IfOk r (λ leads. (leads ≡ false) × (e ≢ NoMemory)) →
    IfOk r (λ leads. MatchBool leads G (PatchStops IsStopped x s))
refused_stops G e (Ok leads) a (f, n) = rw f (fault_stops n a)
refused_stops G e (Err x) a h = tt

-- a primitive that was applied leads on shallowly
pub leads_within : {T : Type 0} (p : Prim) (t u : Tree) (r : Result T TreeFault) (x : T) (s : LawfulMap) (lawful : IsLawful (finmap.get u)) → IsMapOf t s → r ≡ Ok x → Applied p t u r →
    FaultsAs p (finmap.get t) r → (Deep (finmap.get u) → ⊥) → LeadsShallowly p s (record { map = finmap.get u; lawful = lawful })
leads_within {T} p t u r x s lawful is ok change fault few =
    let made = rw ok at change in
    let fits = subst (FaultsAs {T = T} p (finmap.get t)) ok fault in
    record {
      leads = record { applies = rw is made };
      shallow = few;
      small = λ large. past_none p (finmap.get t) (finmap.get u) x fits made few (inr (rw is at large));
    }

-- what is stopped leads nowhere
stopped_leads : (p : Prim) (s t : LawfulMap) → IsStopped p s → LeadsShallowly p s t → ⊥
stopped_leads p s t h g = elim (h t.map g.leads.applies) [ inl deep ↦ g.shallow deep | inr large ↦ g.small large ]

pub patch_stops_all : {x : Patch} {s t : LawfulMap} → PatchStops IsStopped x s → PatchLeadsShallowly x s t → ⊥
patch_stops_all {s} {t} q r = go (runs_part q.before (rw q.at at r))
  where
    go : (v : LawfulMap) × InTurn LeadsShallowly q.before s v × InTurn LeadsShallowly (q.prim ∷ q.after) v t → ⊥
    go (v, i, step {u = w} j k) = let e : v ≡ q.tree = runs_one goes_one i q.leads in stopped_leads q.prim q.tree w q.stops (rw e at j)

-- the items of xs, by m, in turn lead on
pub run_step : {X P : Type 0} (m : X → P) (Step : P → LawfulMap → LawfulMap → Type 0) (xs : List X) (k : ℕ) (x : X) {s t u : LawfulMap} → k < length xs → x ≡ get_or xs k x → InTurn Step (map m (take k xs)) s t → Step (m x) t u → InTurn Step (map m (take (k + 1) xs)) s u
run_step m Step xs k x l e r h = rw (take_more xs k x l, map_push m (take k xs) (get_or xs k x), ← e) (runs_on r (step h done))

-- the primitives up to a place lead shallowly, and the one there has a fault
pub faults_there : {X : Type 0} (m : X → Prim) (y : Patch) (xs : List X) (k : ℕ) (x : X) (e : TreeFault) (r : Result (Unit {0}) TreeFault) (u v : Tree) {s t : LawfulMap} → y.prims ≡ map m xs → k < length xs → x ≡ get_or xs k x →
    IsMapOf u t → InTurn LeadsShallowly (map m (take k xs)) s t → r ≡ Err e → Applied (m x) u v r → FaultsAs (m x) (finmap.get u) r → FaultsAt y s k v e
faults_there m y xs k x e r u v {t = t} is l at is_map leads err change fault =
    let b = rw err at change in
    record {
      prim = m x;
      prim_at = rw is (slice_get-map m xs k ∙ ap (option_map m) (slice_get_read xs (length xs) k x refl l at));
      reached = t;
      is_map = is_map ∙ ap finmap.get (sym b.0);
      leads = rw (is, take-map m k xs) leads;
      admits = rw b.0 b.1;
      answers = subst (λ z. FaultsAs {T = Unit {0}} (m x) (finmap.get z) (Err e)) (sym b.0) (subst (λ z. FaultsAs {T = Unit {0}} (m x) (finmap.get u) z) err fault);
    }

-- the patches up to a place lead shallowly, and the one there is stopped
pub fit_stops : (xs : List Placed) (k : ℕ) (x : Placed) {s t : LawfulMap} → k < length xs → x ≡ get_or xs k x → InTurn PatchLeadsShallowly (patches (take k xs)) s t → PatchStops IsStopped x.1 t →
    FitStops IsStopped s xs x
fit_stops xs k x {t = t} l e r h = record { before = take k xs; after = drop (k + 1) xs; tree = t; at = around xs k x l e; leads = r; stops = h }
