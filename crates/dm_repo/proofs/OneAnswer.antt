-- Weighing has one answer: each step goes through in one way, or refuses for one reason.
use Rattle.std.proofs.Common.{◌≡◌, ◌≢◌, ℕ, ◌<◌, ◌⊎◌, inl, inr, List, refl, sym, subst, ap, ap₂, ◌∙◌, arith}
use Rattle.std.proofs.lemmas.List.{length-map}
use Rattle.dm_prim.specs.InTurn.{InTurn}
use Rattle.dm_prim.specs.Primitives.{Prim, LawfulMap}
use Rattle.dm_prim.specs.Limits.{IsPastLimits}
use Rattle.dm_prim.proofs.Single.{applies_one, same_map}
use Rattle.dm_named.specs.Patches.{Patch}
use Rattle.dm_bundle.specs.Bundles.{Contents}
use Rattle.dm_repo.specs.declared.refusal.Refusal.{Refusal}
use Rattle.dm_repo.specs.declared.refusal.Refusal.TheVariants.{MissingContext, MissingDependency, ContextDepends, HeldDepends, DoesNotFit, Conflicts, Full, NoMemory}
use Rattle.dm_repo.specs.Staircases.{Split, SplitStops}
use Rattle.dm_repo.specs.declared.policy.Policy.{Policy}
use Rattle.dm_repo.specs.Sifting.{MergesUnder, ConflictsUnder}
use Rattle.dm_repo.specs.Squares.{Placed, placed, patches, PlacedCommutes}
use Rattle.dm_repo.specs.Folds.{IsRoot, PatchLeadsShallowly, GoesPastLimits, IsStopped, ShallowFold}
use Rattle.dm_repo.specs.CommonSets.{KnowsContext, HasAll, HasDependencies, First, LacksAt, LacksDependency, LacksFirst}
use Rattle.dm_repo.specs.Weighing.{IsCommon, IsHeld, HasPrerequisites, IsRepoSplit, IsBundleSplit, FitStops, RunsPastLimits, Fits, IsFull, RefusesBundle, Appends}
use Rattle.dm_repo.specs.Laws.{Answer, Refused, NothingNew, Merged, AnswersWeighing, WeighingHasOneAnswer}
use Rattle.dm_repo.proofs.Staircases.{split_one, split_stops}
use Rattle.dm_repo.proofs.SiftLemmas.{under_one, conflicts_one, conflicts_exclude}
use Rattle.dm_repo.proofs.Placed.{placed_one}
use Rattle.dm_repo.proofs.Members.{from_at}
use Rattle.dm_repo.proofs.Making.{fit_stops_all, front_stops, grows_one}
use Rattle.dm_repo.proofs.DependencyLemmas.{has_no_lack}
use Rattle.dm_repo.proofs.Firsts.{split_stops_one, fit_stops_one}

-- the first place is one
first_one : (Q : ℕ → Type 0) (j k : ℕ) → First Q j → First Q k → j ≡ k
first_one Q j k (q, none) (r, nothing) = same j k (λ l. nothing j l q) (λ l. none k l r)
  where
    same : (j k : ℕ) → (j < k → ⊥) → (k < j → ⊥) → j ≡ k
    same j k n m = omega (arith, n, m)

-- what goes past a limit is stopped
pub past_stopped : (p : Prim) (s : LawfulMap) → GoesPastLimits p s → IsStopped p s
past_stopped p s (m, a, d) t h = subst (IsPastLimits p s.map) (same_map m t (applies_one p s.map m t s.lawful a h)) d

pub past_stops : {s : LawfulMap} {xs : List Placed} {x : Placed} → FitStops GoesPastLimits s xs x → FitStops IsStopped s xs x
past_stops f = record {
  before = f.before;
  after = f.after;
  tree = f.tree;
  at = f.at;
  leads = f.leads;
  stops = record { before = f.stops.before; prim = f.stops.prim; after = f.stops.after; tree = f.stops.tree; at = f.stops.at; leads = f.stops.leads; stops = past_stopped f.stops.prim f.stops.tree f.stops.stops };
}

module _ (repo : List Patch) (b : Contents) (policy : Policy) where
  -- each step stops for a reason, or goes through and leaves the answer to the next
  abbrev Appending : List Placed → ℕ → Answer → Type 0
  Appending merged skipped x = (IsFull repo merged × (x ≡ Refused Full)) ⊎ (Appends repo (patches merged) × (x ≡ Merged (patches merged) skipped))

  abbrev MergingRest : List Placed → List Placed → Answer → Type 0
  MergingRest rest new x =
      ((n : Placed) × (r : Placed) × ConflictsUnder policy rest new n r × (x ≡ Refused (Conflicts n.0 r.0))) ⊎
      ((merged : List Placed) × (skipped : ℕ) × MergesUnder policy rest new merged skipped × Appending merged skipped x)

  abbrev FittingNew : LawfulMap → List Placed → List Placed → Answer → Type 0
  FittingNew base rest new x =
      ((y : Placed) × FitStops IsStopped base new y × (x ≡ Refused (DoesNotFit y.0))) ⊎
      ((fitted : LawfulMap) × InTurn PatchLeadsShallowly (patches new) base fitted × MergingRest rest new x)

  abbrev FittingFront : List Placed → List Placed → List Placed → Answer → Type 0
  FittingFront front rest new x =
      ((start : LawfulMap) × IsRoot start × RunsPastLimits start front × (x ≡ Refused Full)) ⊎
      ((base : LawfulMap) × ShallowFold (patches front) base × FittingNew base rest new x)

  abbrev SplittingBundle : List Placed → List Placed → Answer → Type 0
  SplittingBundle front rest x =
      ((h : Placed) × (n : Placed) × SplitStops PlacedCommutes (IsHeld repo) (placed b.patches) h n × (x ≡ Refused (HeldDepends h.0 n.0))) ⊎
      ((held : List Placed) × (new : List Placed) × Split PlacedCommutes (IsHeld repo) (placed b.patches) held new × FittingFront front rest new x)

  abbrev SplittingRepo : Answer → Type 0
  SplittingRepo x =
      ((h : Placed) × (r : Placed) × SplitStops PlacedCommutes (IsCommon repo b) (placed repo) h r × (x ≡ Refused (ContextDepends h.0 r.0))) ⊎
      ((front : List Placed) × (rest : List Placed) × Split PlacedCommutes (IsCommon repo b) (placed repo) front rest × SplittingBundle front rest x)

  abbrev FindingDependencies : Answer → Type 0
  FindingDependencies x = ((n : ℕ) × (d : ℕ) × LacksFirst repo b n d × (x ≡ Refused (MissingDependency n d))) ⊎ (HasDependencies repo b × SplittingRepo x)

  abbrev FindingNew : Answer → Type 0
  FindingNew x = (HasAll repo b × (x ≡ NothingNew)) ⊎ ((HasAll repo b → ⊥) × FindingDependencies x)

  abbrev FindingContext : Answer → Type 0
  FindingContext x = ((c : ℕ) × First (LacksAt repo b.context) c × (x ≡ Refused (MissingContext c))) ⊎ (KnowsContext repo b × FindingNew x)

  -- what is full isn't appended to
  full_appends : {merged : List Placed} → IsFull repo merged → Appends repo (patches merged) → ⊥
  full_appends {merged} (inl many) a = omega (arith, many, a.few, length-map merged (λ x. x.1))
  full_appends (inr (s, g, d)) a = let e = grows_one repo a.folds g in fit_stops_all (past_stops d.1) (rw e at a.leads)

  -- two answers that a step leads to are one
  appending_one : (merged : List Placed) (skipped : ℕ) {x y : Answer} → Appending merged skipped x → Appending merged skipped y → x ≡ y
  appending_one merged skipped (inl (f, p)) (inl (g, q)) = p ∙ sym q
  appending_one merged skipped (inl (f, p)) (inr (a, q)) = absurd (full_appends f a)
  appending_one merged skipped (inr (a, p)) (inl (f, q)) = absurd (full_appends f a)
  appending_one merged skipped (inr (a, p)) (inr (c, q)) = p ∙ sym q

  merging_one : (rest new : List Placed) {x y : Answer} → MergingRest rest new x → MergingRest rest new y → x ≡ y
  merging_one rest new (inl (n, r, s, p)) (inl (n1, r1, t, q)) =
      let e = conflicts_one policy rest new n r n1 r1 s t in
      p ∙ ap₂ (λ (i j : Placed). Refused (Conflicts i.0 j.0)) e.0 e.1 ∙ sym q
  merging_one rest new (inl (n, r, s, p)) (inr (merged, skipped, m, a)) = absurd (conflicts_exclude policy rest new merged skipped n r s m)
  merging_one rest new (inr (merged, skipped, m, a)) (inl (n, r, s, p)) = absurd (conflicts_exclude policy rest new merged skipped n r s m)
  merging_one rest new {x} {y} (inr (merged, skipped, m, a)) (inr (merged1, skipped1, m1, a1)) =
      let e = under_one policy rest new merged merged1 skipped skipped1 m m1 in
      let a2 = subst (λ (k : ℕ). Appending merged1 k y) (sym e.1) a1 in
      appending_one merged skipped a (subst (λ (l : List Placed). Appending l skipped y) (sym e.0) a2)

  fitting_one : (base : LawfulMap) (rest new : List Placed) {x y : Answer} → FittingNew base rest new x → FittingNew base rest new y → x ≡ y
  fitting_one base rest new (inl (z, f, p)) (inl (w, g, q)) = p ∙ ap (λ (i : Placed). Refused (DoesNotFit i.0)) (fit_stops_one f g) ∙ sym q
  fitting_one base rest new (inl (z, f, p)) (inr (t, r, m)) = absurd (fit_stops_all f r)
  fitting_one base rest new (inr (t, r, m)) (inl (z, f, p)) = absurd (fit_stops_all f r)
  fitting_one base rest new (inr (t, r, m)) (inr (t1, r1, m1)) = merging_one rest new m m1

  front_one : (front rest new : List Placed) {x y : Answer} → FittingFront front rest new x → FittingFront front rest new y → x ≡ y
  front_one front rest new (inl (s, r, d, p)) (inl (s1, r1, d1, q)) = p ∙ sym q
  front_one front rest new (inl (s, r, d, p)) (inr (base, g, m)) = absurd (front_stops r (past_stops d.1) g)
  front_one front rest new (inr (base, g, m)) (inl (s, r, d, p)) = absurd (front_stops r (past_stops d.1) g)
  front_one front rest new {x} {y} (inr (base, g, m)) (inr (base1, g1, m1)) =
      let e : base ≡ base1 = grows_one (patches front) g g1 in
      fitting_one base rest new m (subst (λ (t : LawfulMap). FittingNew t rest new y) (sym e) m1)

  bundle_one : (front rest : List Placed) {x y : Answer} → SplittingBundle front rest x → SplittingBundle front rest y → x ≡ y
  bundle_one front rest (inl (h, n, s, p)) (inl (h1, n1, t, q)) =
      let e = split_stops_one Placed PlacedCommutes placed_one (IsHeld repo) s t in
      p ∙ ap₂ (λ (i j : Placed). Refused (HeldDepends i.0 j.0)) e.0 e.1 ∙ sym q
  bundle_one front rest (inl (h, n, s, p)) (inr (held, new, t, m)) = absurd (split_stops Placed PlacedCommutes placed_one (IsHeld repo) s t)
  bundle_one front rest (inr (held, new, t, m)) (inl (h, n, s, p)) = absurd (split_stops Placed PlacedCommutes placed_one (IsHeld repo) s t)
  bundle_one front rest {x} {y} (inr (held, new, t, m)) (inr (held1, new1, t1, m1)) =
      let e : new ≡ new1 = (split_one Placed PlacedCommutes placed_one (IsHeld repo) refl t t1).1 in
      front_one front rest new m (subst (λ (l : List Placed). FittingFront front rest l y) (sym e) m1)

  repo_one : {x y : Answer} → SplittingRepo x → SplittingRepo y → x ≡ y
  repo_one (inl (h, r, s, p)) (inl (h1, r1, t, q)) =
      let e = split_stops_one Placed PlacedCommutes placed_one (IsCommon repo b) s t in
      p ∙ ap₂ (λ (i j : Placed). Refused (ContextDepends i.0 j.0)) e.0 e.1 ∙ sym q
  repo_one (inl (h, r, s, p)) (inr (front, rest, t, m)) = absurd (split_stops Placed PlacedCommutes placed_one (IsCommon repo b) s t)
  repo_one (inr (front, rest, t, m)) (inl (h, r, s, p)) = absurd (split_stops Placed PlacedCommutes placed_one (IsCommon repo b) s t)
  repo_one {x} {y} (inr (front, rest, t, m)) (inr (front1, rest1, t1, m1)) =
      let e = split_one Placed PlacedCommutes placed_one (IsCommon repo b) refl t t1 in
      let m2 = subst (λ (l : List Placed). SplittingBundle l rest1 y) (sym e.0) m1 in
      bundle_one front rest m (subst (λ (l : List Placed). SplittingBundle front l y) (sym e.1) m2)

  dependencies_one : {x y : Answer} → FindingDependencies x → FindingDependencies y → x ≡ y
  dependencies_one (inl (n, d, f, p)) (inl (n1, d1, g, q)) =
      let e : n ≡ n1 = first_one (λ k. (i : ℕ) × LacksDependency repo b k i) n n1 f.0 g.0 in
      let h = first_one (LacksDependency repo b n) d d1 f.1 (subst (λ (k : ℕ). First (LacksDependency repo b k) d1) (sym e) g.1) in
      p ∙ ap₂ (λ (i j : ℕ). Refused (MissingDependency i j)) e h ∙ sym q
  dependencies_one (inl (n, d, f, p)) (inr (has, m)) = absurd (has_no_lack repo b n (has n) f.0.0)
  dependencies_one (inr (has, m)) (inl (n, d, f, p)) = absurd (has_no_lack repo b n (has n) f.0.0)
  dependencies_one (inr (has, m)) (inr (has1, m1)) = repo_one m m1

  new_one : {x y : Answer} → FindingNew x → FindingNew y → x ≡ y
  new_one (inl (all, p)) (inl (all1, q)) = p ∙ sym q
  new_one (inl (all, p)) (inr (some, m)) = absurd (some all)
  new_one (inr (some, m)) (inl (all, p)) = absurd (some all)
  new_one (inr (some, m)) (inr (some1, m1)) = dependencies_one m m1

  lacks_none : {c : ℕ} → First (LacksAt repo b.context) c → KnowsContext repo b → ⊥
  lacks_none {c} f knows = f.0.2 (knows f.0.0 (from_at b.context c f.0.1))

  context_one : {x y : Answer} → FindingContext x → FindingContext y → x ≡ y
  context_one (inl (c, f, p)) (inl (c1, g, q)) = p ∙ ap (λ (i : ℕ). Refused (MissingContext i)) (first_one (LacksAt repo b.context) c c1 f g) ∙ sym q
  context_one (inl (c, f, p)) (inr (knows, m)) = absurd (lacks_none f knows)
  context_one (inr (knows, m)) (inl (c, f, p)) = absurd (lacks_none f knows)
  context_one (inr (knows, m)) (inr (knows1, m1)) = new_one m m1

  -- the steps before one that went through
  after_prerequisites : {x : Answer} → HasPrerequisites repo b → SplittingRepo x → FindingContext x
  after_prerequisites p m = inr (p.knows, inr (p.is_new, inr (p.has_dependencies, m)))

  after_repo_split : {front rest : List Placed} {x : Answer} → IsRepoSplit repo b front rest → SplittingBundle front rest x → FindingContext x
  after_repo_split {front} {rest} s m = after_prerequisites s.prerequisites (inr (front, rest, s.split, m))

  after_bundle_split : {front rest new : List Placed} {x : Answer} → IsBundleSplit repo b front rest new → FittingFront front rest new x → FindingContext x
  after_bundle_split {front} {rest} {new} s m = after_repo_split s.repo_split (inr (s.held, new, s.split, m))

  after_fits : {rest new : List Placed} {x : Answer} → Fits repo b rest new → MergingRest rest new x → FindingContext x
  after_fits f m = after_bundle_split f.bundle_split (inr (f.base, f.folds, inr (f.fitted, f.leads, m)))

  -- each answer comes of these steps
  refusal_steps : (why : Refusal) → why ≢ NoMemory → RefusesBundle repo b policy why → FindingContext (Refused why)
  refusal_steps (MissingContext c) n f = inl (c, f, refl)
  refusal_steps (MissingDependency k d) n (knows, some, f) = inr (knows, inr (some, inl (k, d, f, refl)))
  refusal_steps (ContextDepends h r) n (p, s) = after_prerequisites p (inl (s.0, s.1, s.4, ap₂ (λ (i j : ℕ). Refused (ContextDepends i j)) s.2 s.3))
  refusal_steps (HeldDepends h r) n (front, rest, p, s) = after_repo_split p (inl (s.0, s.1, s.4, ap₂ (λ (i j : ℕ). Refused (HeldDepends i j)) s.2 s.3))
  refusal_steps (DoesNotFit k) n (front, rest, new, p, s) = after_bundle_split p (inr (s.0, s.3, inl (s.1, s.4, ap (λ (i : ℕ). Refused (DoesNotFit i)) s.2)))
  refusal_steps (Conflicts k r) n (rest, new, f, s) = after_fits f (inl (s.0, s.1, s.4, ap₂ (λ (i j : ℕ). Refused (Conflicts i j)) s.2 s.3))
  refusal_steps Full n (inl (front, rest, new, p, s)) = after_bundle_split p (inl (s.0, s.1, s.2, refl))
  refusal_steps Full n (inr (rest, new, merged, skipped, f, m, i)) = after_fits f (inr (merged, skipped, m, inl (i, refl)))
  refusal_steps NoMemory n r = absurd (n refl)

  answer_steps : (x : Answer) → x ≢ Refused NoMemory → AnswersWeighing repo b policy x → FindingContext x
  answer_steps (Refused why) n h = refusal_steps why (λ e. n (ap Refused e)) h
  answer_steps NothingNew n h = inr (h.knows, inl (h.all_held, refl))
  answer_steps (Merged merged skipped) n m = after_fits m.fits (inr (m.new', skipped, m.merge, inr (subst (Appends repo) m.is_merged m.appends, ap (λ (l : List Patch). Merged l skipped) m.is_merged)))

pub weighing_one : WeighingHasOneAnswer
weighing_one repo b policy x y n m h k = context_one repo b policy (answer_steps repo b policy x n h) (answer_steps repo b policy y m k)
