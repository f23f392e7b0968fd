-- A repository answers as another of the same names and the same tree does.
use Rattle.std.proofs.Common.{◌≡◌, ◌⊎◌, inl, inr, ℕ, ◌+◌, List, [], ◌∷◌, ◌++◌, length, map, refl, sym, ap, subst, ◌∙◌, arith}
use Rattle.std.proofs.lemmas.List.{length-map, map-append}
use Rattle.std.proofs.lemmas.List.Elements.{Contains-append_left, Contains-append_right, Contains-append_cases}
use Rattle.std.specs.List.{AllByRecursion, Contains}
use Rattle.dm_info.specs.PatchInfo.{PatchInfo}
use Rattle.dm_tree.specs.Trees.{Tree}
use Rattle.dm_prim.specs.Primitives.{LawfulMap}
use Rattle.dm_named.specs.Patches.{Patch}
use Rattle.dm_bundle.specs.Patches.{infos_of, Distinct}
use Rattle.dm_bundle.specs.Bundles.{Contents}
use Rattle.dm_repo.specs.declared.policy.Policy.{Policy}
use Rattle.dm_repo.specs.declared.refusal.Refusal.{Refusal}
use Rattle.dm_repo.specs.declared.refusal.Refusal.TheVariants.{MissingContext, MissingDependency, ContextDepends, HeldDepends, DoesNotFit, Conflicts, Full, NoMemory}
use Rattle.dm_repo.specs.declared.weighed.Weighed.{Weighed}
use Rattle.dm_repo.specs.declared.weighed.Weighed.TheVariants as weighed
use Rattle.dm_repo.specs.CommonSets.{Closed, given, needed, Common, KnowsContext, HasAll, IsKnown, HasDependencies, LacksAt, LacksDependency, LacksFirst}
use Rattle.dm_repo.specs.Folds.{IsRoot, ShallowFold}
use Rattle.dm_repo.specs.Laws.{Answer, Refused, NothingNew, Merged, AnswersWeighing}
use Rattle.dm_repo.specs.Repositories.{Holds, IsTreeOf, NamesEarlier}
use Rattle.dm_begin.specs.Sharing.{AreCommon}
use Rattle.dm_repo.specs.Squares.{Placed, placed, placed_from, patches, PlacedCommutes}
use Rattle.dm_repo.specs.Staircases.{Split, SplitStops}
use Rattle.dm_repo.specs.Weighed.{Weighs}
use Rattle.dm_repo.specs.Weighing.{IsCommon, IsHeld, HasPrerequisites, IsRepoSplit, IsBundleSplit, RunsPastLimits, Fits, IsFull, RefusesBundle, IsNothingNew, Appends, IsMergeOf}
use Rattle.dm_repo.proofs.Making.{grows_one, makes_on}
use Rattle.dm_repo.proofs.Members.{dep_held, infos_of-append, in_infos, one_of, none_of, here, more}
use Rattle.dm_repo.proofs.Placed.{patches_placed}
use Rattle.dm_repo.proofs.Splits.{placed_from-append}
use Rattle.dm_repo.proofs.Staircases.{runs_part}
use Rattle.dm_repo.proofs.Trees.{root_one}
use Rattle.dm_begin.specs.Alike.{StandAlike, ShareFirst, AnswersAlike, WeighsAlike, TreesStayAlike, CommonAlike}
use Rattle.dm_begin.proofs.FrontLemmas.{split_also, stops_also, split_first, split_after, stops_first, stops_after, past_first, past_after}

names_front : (known : List PatchInfo) (xs ys : List Patch) → NamesEarlier known (xs ++ ys) → NamesEarlier known xs
names_front known [] ys n = tt
names_front known (x ∷ xs) ys n = (n.0, names_front (known ++ x.info ∷ []) xs ys n.1)

apart : (is js : List PatchInfo) {i : PatchInfo} → Distinct (is ++ js) → Contains is i → Contains js i → ⊥
apart [] js d h k = none_of h
apart (j ∷ is) js {i} d h k = elim (one_of j is h) [
  | inl e ↦ d.0 (rw e (Contains-append_right is js i k))
  | inr m ↦ apart is js d.1 m k
]

-- the other way round
pub turned : {f g : List Patch} → StandAlike f g → StandAlike g f
turned a = record { names = sym a.names; tree = a.tree; first = a.second; second = a.first }

pub shares_turned : {f g xs : List Patch} {b : Contents} → ShareFirst f g xs b → ShareFirst g f xs b
shares_turned s = record {
  alike = turned s.alike;
  first = s.second;
  second = s.first;
  first_common = s.second_common;
  second_common = s.first_common;
}

-- what stands on f stands on g as well
module _ (f g : List Patch) (a : StandAlike f g) where
  pub same_length : length f ≡ length g
  same_length = sym (length-map f (λ (x : Patch). x.info)) ∙ ap length a.names ∙ length-map g (λ (x : Patch). x.info)

  pub folds_there : (ys : List Patch) {t : LawfulMap} → ShallowFold (f ++ ys) t → ShallowFold (g ++ ys) t
  folds_there ys w =
      let p = runs_part f w.runs in
      let e : p.0 ≡ a.tree = grows_one f (record { start = w.start; is_root = w.is_root; runs = p.1 }) a.first in
      makes_on g ys a.second (rw e at p.2)

  pub tree_there : (xs : List Patch) (t : Tree) → IsTreeOf (f ++ xs) t → IsTreeOf (g ++ xs) t
  tree_there xs t (m, is, w) = (m, is, folds_there xs w)

  -- patches behind f
  module _ (xs : List Patch) where
    pub same_names : infos_of (f ++ xs) ≡ infos_of (g ++ xs)
    same_names = infos_of-append f xs ∙ ap (λ l. l ++ infos_of xs) a.names ∙ sym (infos_of-append g xs)

    pub holds_there : (i : PatchInfo) → Holds (f ++ xs) i → Holds (g ++ xs) i
    holds_there i h = subst (λ (l : List PatchInfo). Contains l i) same_names h

    pub holds_back : (i : PatchInfo) → Holds (g ++ xs) i → Holds (f ++ xs) i
    holds_back i h = subst (λ (l : List PatchInfo). Contains l i) (sym same_names) h

-- all names of f are common
common_from : (repo : List Patch) (b : Contents) (n : ℕ) (xs : List Patch) → AreCommon repo b (infos_of xs) → AllByRecursion (IsCommon repo b) (placed_from n xs)
common_from repo b n [] c = tt
common_from repo b n (x ∷ xs) c = (c x.info (here x.info (infos_of xs)), common_from repo b (n + 1) xs (λ i h. c i (more x.info (infos_of xs) h)))

-- what is common with the one is common with the other
module _ (f g xs : List Patch) (b : Contents) (s : ShareFirst f g xs b) where
  abbrev Reaches : PatchInfo → Type 0
  Reaches i = Closed (g ++ xs) b.context i ⊎ Contains (infos_of f) i

  closed_there : {i : PatchInfo} → Closed (f ++ xs) b.context i → Reaches i
  closed_there (given h) = inl (given h)
  closed_there (needed {x} {d} m c k) = by (closed_there c) (Contains-append_cases f xs x m)
    where
      by : Reaches x.info → Contains f x ⊎ Contains xs x → Reaches d
      by so_far (inl h) = inr (dep_held [] f (names_front [] f xs s.first.earlier) h k)
      by so_far (inr h) = elim so_far [
        | inl r ↦ inl (needed (Contains-append_right g xs x h) r k)
        | inr r ↦ absurd (apart (infos_of f) (infos_of xs) (rw (infos_of-append f xs) at s.first.distinct) r (in_infos xs h))
      ]

  common_there : (i : PatchInfo) → Common (f ++ xs) b i → Common (g ++ xs) b i
  common_there i (inl c) = elim (closed_there c) [ inl r ↦ inl r | inr r ↦ s.second_common i (subst (λ (l : List PatchInfo). Contains l i) s.alike.names r) ]
  common_there i (inr h) = inr (h.0, holds_there f g s.alike xs i h.1)

-- each step of weighing, with the one and with the other
module _ (f g xs : List Patch) (b : Contents) (s : ShareFirst f g xs b) where
  holds : (i : PatchInfo) → Holds (f ++ xs) i → Holds (g ++ xs) i
  holds = holds_there f g s.alike xs

  held : (i : PatchInfo) → Holds (g ++ xs) i → Holds (f ++ xs) i
  held = holds_back f g s.alike xs

  common : (i : PatchInfo) → Common (f ++ xs) b i → Common (g ++ xs) b i
  common = common_there f g xs b s

  was_common : (i : PatchInfo) → Common (g ++ xs) b i → Common (f ++ xs) b i
  was_common = common_there g f xs b (shares_turned s)

  known : (n : ℕ) (i : PatchInfo) → IsKnown (f ++ xs) b n i → IsKnown (g ++ xs) b n i
  known n i (inl c) = inl (common i c)
  known n i (inr h) = inr h

  was_known : (n : ℕ) (i : PatchInfo) → IsKnown (g ++ xs) b n i → IsKnown (f ++ xs) b n i
  was_known n i (inl c) = inl (was_common i c)
  was_known n i (inr h) = inr h

  knows : KnowsContext (f ++ xs) b → KnowsContext (g ++ xs) b
  knows k i c = holds i (k i c)

  has_all : HasAll (f ++ xs) b → HasAll (g ++ xs) b
  has_all k i c = holds i (k i c)

  has_not_all : (HasAll (f ++ xs) b → ⊥) → HasAll (g ++ xs) b → ⊥
  has_not_all n k = n (λ i c. held i (k i c))

  has_dependencies : HasDependencies (f ++ xs) b → HasDependencies (g ++ xs) b
  has_dependencies h n x d at new c = known n d (h n x d at (λ k. new (holds x.info k)) c)

  lacks : (infos : List PatchInfo) (k : ℕ) → LacksAt (f ++ xs) infos k → LacksAt (g ++ xs) infos k
  lacks infos k (i, at, absent) = (i, at, λ h. absent (held i h))

  lacked : (infos : List PatchInfo) (k : ℕ) → LacksAt (g ++ xs) infos k → LacksAt (f ++ xs) infos k
  lacked infos k (i, at, absent) = (i, at, λ h. absent (holds i h))

  lacks_dependency : (n d : ℕ) → LacksDependency (f ++ xs) b n d → LacksDependency (g ++ xs) b n d
  lacks_dependency n d q = record {
    patch = q.patch;
    dependency = q.dependency;
    patch_at = q.patch_at;
    dependency_at = q.dependency_at;
    is_new = λ h. q.is_new (held q.patch.info h);
    unknown = λ k. q.unknown (was_known n q.dependency k);
  }

  lacked_dependency : (n d : ℕ) → LacksDependency (g ++ xs) b n d → LacksDependency (f ++ xs) b n d
  lacked_dependency n d q = record {
    patch = q.patch;
    dependency = q.dependency;
    patch_at = q.patch_at;
    dependency_at = q.dependency_at;
    is_new = λ h. q.is_new (holds q.patch.info h);
    unknown = λ k. q.unknown (known n q.dependency k);
  }

  lacks_first : (n d : ℕ) → LacksFirst (f ++ xs) b n d → LacksFirst (g ++ xs) b n d
  lacks_first n d ((q, none), (r, nothing)) = (
    ((q.0, lacks_dependency n q.0 q.1), λ k j w. none k j (w.0, lacked_dependency k w.0 w.1)),
    (lacks_dependency n d r, λ k j w. nothing k j (lacked_dependency n k w)),
  )

  prerequisites : HasPrerequisites (f ++ xs) b → HasPrerequisites (g ++ xs) b
  prerequisites p = record { knows = knows p.knows; is_new = has_not_all p.is_new; has_dependencies = has_dependencies p.has_dependencies }

  -- the first patches, and what stands behind them
  in_two : placed (f ++ xs) ≡ placed f ++ placed_from (length f) xs
  in_two = placed_from-append 0 f xs ∙ ap (λ n. placed f ++ placed_from n xs) (let z : 0 + length f ≡ length f = omega arith in z)

  in_two_there : placed (g ++ xs) ≡ placed g ++ placed_from (length f) xs
  in_two_there = placed_from-append 0 g xs ∙ ap (λ n. placed g ++ placed_from n xs) (let l = same_length f g s.alike in let z : 0 + length g ≡ length f = omega (arith, l) in z)

  all_common : AllByRecursion (IsCommon (f ++ xs) b) (placed f)
  all_common = common_from (f ++ xs) b 0 f s.first_common

  all_common_there : AllByRecursion (IsCommon (g ++ xs) b) (placed g)
  all_common_there = common_from (g ++ xs) b 0 g s.second_common

  -- both fronts have the first patches, and behind them the same
  record Fronts (front also : List Placed) : Type 0 where
    later : List Placed
    is : front ≡ placed f ++ later
    also_is : also ≡ placed g ++ later

  split_there : {front rest : List Placed} → Split PlacedCommutes (IsCommon (f ++ xs) b) (placed (f ++ xs)) front rest →
      (also : List Placed) × Fronts front also × Split PlacedCommutes (IsCommon (g ++ xs) b) (placed (g ++ xs)) also rest
  split_there p =
      let q = split_after PlacedCommutes (IsCommon (f ++ xs) b) (placed f) all_common (rw in_two at p) in
      let r = split_also PlacedCommutes (λ x c. common x.1.info c) (λ x c. was_common x.1.info c) q.2 in (
        placed g ++ q.0,
        record { later = q.0; is = q.1; also_is = refl },
        rw in_two_there (split_first PlacedCommutes (IsCommon (g ++ xs) b) (placed g) all_common_there r),
      )

  stops_there : {h r : Placed} → SplitStops PlacedCommutes (IsCommon (f ++ xs) b) (placed (f ++ xs)) h r → SplitStops PlacedCommutes (IsCommon (g ++ xs) b) (placed (g ++ xs)) h r
  stops_there p =
      let q = stops_after PlacedCommutes (IsCommon (f ++ xs) b) (placed f) all_common (rw in_two at p) in
      let r = stops_also PlacedCommutes (λ x c. common x.1.info c) (λ x c. was_common x.1.info c) q in
      rw in_two_there (stops_first PlacedCommutes (IsCommon (g ++ xs) b) (placed g) all_common_there r)

  repo_split : {front rest : List Placed} → IsRepoSplit (f ++ xs) b front rest → (also : List Placed) × Fronts front also × IsRepoSplit (g ++ xs) b also rest
  repo_split p = let q = split_there p.split in (q.0, q.1, record { prerequisites = prerequisites p.prerequisites; split = q.2 })

  bundle_split : {front rest new : List Placed} → IsBundleSplit (f ++ xs) b front rest new → (also : List Placed) × Fronts front also × IsBundleSplit (g ++ xs) b also rest new
  bundle_split p = let q = repo_split p.repo_split in (
    q.0,
    q.1,
    record { repo_split = q.2; held = p.held; split = split_also PlacedCommutes (λ x h. holds x.1.info h) (λ x h. held x.1.info h) p.split },
  )

  held_stops : {h n : Placed} → SplitStops PlacedCommutes (IsHeld (f ++ xs)) (placed b.patches) h n → SplitStops PlacedCommutes (IsHeld (g ++ xs)) (placed b.patches) h n
  held_stops p = stops_also PlacedCommutes (λ x h. holds x.1.info h) (λ x h. held x.1.info h) p

  -- both fronts make the same tree, and go past a limit at the same patch
  patches_of_front : (h later : List Placed) (base : List Patch) → h ≡ placed base ++ later → patches h ≡ base ++ patches later
  patches_of_front h later base e = ap patches e ∙ map-append (λ (x : Placed). x.1) (placed base) later ∙ ap (λ l. l ++ patches later) (patches_placed 0 base)

  front_folds : {front also : List Placed} {t : LawfulMap} → Fronts front also → ShallowFold (patches front) t → ShallowFold (patches also) t
  front_folds {front} {also} r w =
      rw (patches_of_front also r.later g r.also_is) (folds_there f g s.alike (patches r.later) (rw (patches_of_front front r.later f r.is) at w))

  front_past : {front also : List Placed} → Fronts front also → (start : LawfulMap) × IsRoot start × RunsPastLimits start front → (start : LawfulMap) × IsRoot start × RunsPastLimits start also
  front_past {front} {also} r (start, root, (x, stops)) =
      let e : s.alike.first.start ≡ start = root_one s.alike.first.start start s.alike.first.is_root root in
      let runs = rw (e, ← patches_placed 0 f) at s.alike.first.runs in
      let there = rw (← patches_placed 0 g) at s.alike.second.runs in
      let behind = past_after (placed f) r.later runs (rw r.is at stops) in
      (s.alike.second.start, s.alike.second.is_root, (x, rw r.also_is (past_first (placed g) r.later there behind)))

  fits : {rest new : List Placed} → Fits (f ++ xs) b rest new → Fits (g ++ xs) b rest new
  fits p = let q = bundle_split p.bundle_split in record { front = q.0; bundle_split = q.2; base = p.base; folds = front_folds q.1 p.folds; fitted = p.fitted; leads = p.leads }

  repo_length : length (f ++ xs) ≡ length (g ++ xs)
  repo_length = sym (length-map (f ++ xs) (λ (x : Patch). x.info)) ∙ ap length (same_names f g s.alike xs) ∙ length-map (g ++ xs) (λ (x : Patch). x.info)

  is_full : (merged : List Placed) → IsFull (f ++ xs) merged → IsFull (g ++ xs) merged
  is_full merged (inl many) = inl (let l = repo_length in omega (arith, many, l))
  is_full merged (inr (t, w, d)) = inr (t, folds_there f g s.alike xs w, d)

  appends : (new : List Patch) → Appends (f ++ xs) new → Appends (g ++ xs) new
  appends new p = record {
    few = let l = repo_length in let k = p.few in omega (arith, k, l);
    tree = p.tree;
    after = p.after;
    folds = folds_there f g s.alike xs p.folds;
    leads = p.leads;
  }

  merge_there : (policy : Policy) (merged : List Patch) (skipped : ℕ) → IsMergeOf (f ++ xs) b policy merged skipped → IsMergeOf (g ++ xs) b policy merged skipped
  merge_there policy merged skipped m = record {
    rest = m.rest;
    new = m.new;
    new' = m.new';
    fits = fits m.fits;
    merge = m.merge;
    is_merged = m.is_merged;
    appends = appends merged m.appends;
  }

  refuses_there : (policy : Policy) (why : Refusal) → RefusesBundle (f ++ xs) b policy why → RefusesBundle (g ++ xs) b policy why
  refuses_there policy (MissingContext c) (l, none) = (lacks b.context c l, λ k j q. none k j (lacked b.context k q))
  refuses_there policy (MissingDependency n d) (k, new, l) = (knows k, has_not_all new, lacks_first n d l)
  refuses_there policy (ContextDepends h r) (p, q) = (prerequisites p, (q.0, q.1, q.2, q.3, stops_there q.4))
  refuses_there policy (HeldDepends h n) (front, rest, p, q) = let r = repo_split p in (r.0, rest, r.2, (q.0, q.1, q.2, q.3, held_stops q.4))
  refuses_there policy (DoesNotFit n) (front, rest, new, p, (base, x, e, w, q)) = let r = bundle_split p in (r.0, rest, new, r.2, (base, x, e, front_folds r.1 w, q))
  refuses_there policy (Conflicts n r) (rest, new, p, q) = (rest, new, fits p, q)
  refuses_there policy Full (inl (front, rest, new, p, q)) = let r = bundle_split p in inl (r.0, rest, new, r.2, front_past r.1 q)
  refuses_there policy Full (inr (rest, new, merged, skipped, p, m, i)) = inr (rest, new, merged, skipped, fits p, m, is_full merged i)
  refuses_there policy NoMemory u = tt

  nothing_new_there : IsNothingNew (f ++ xs) b → IsNothingNew (g ++ xs) b
  nothing_new_there n = record { knows = knows n.knows; all_held = has_all n.all_held }

  answers_there : (policy : Policy) (x : Answer) → AnswersWeighing (f ++ xs) b policy x → AnswersWeighing (g ++ xs) b policy x
  answers_there policy (Refused why) h = refuses_there policy why h
  answers_there policy NothingNew h = nothing_new_there h
  answers_there policy (Merged merged skipped) h = merge_there policy merged skipped h

  weighs_there : {Z : Type 0} (policy : Policy) (w : Weighed Z) → Weighs (f ++ xs) b policy w → Weighs (g ++ xs) b policy w
  weighs_there policy weighed.NothingNew h = nothing_new_there h
  weighs_there policy (weighed.Merged m) (h, t) = (
    merge_there policy m.patches.items m.skipped h,
    record { before = t.before; folds = folds_there f g s.alike xs t.folds; makes = t.makes },
  )

pub answers_alike : AnswersAlike
answers_alike f g xs b s policy x = (answers_there f g xs b s policy x, answers_there g f xs b (shares_turned s) policy x)

pub weighs_alike : {Z : Type 0} → WeighsAlike Z
weighs_alike f g xs b s policy w = (weighs_there f g xs b s policy w, weighs_there g f xs b (shares_turned s) policy w)

pub trees_stay_alike : TreesStayAlike
trees_stay_alike f g xs a t = (tree_there f g a xs t, tree_there g f (turned a) xs t)

-- a patch of f has one of the same name and the same dependencies in g
twin : (f g : List Patch) → infos_of f ≡ infos_of g → map (λ x. x.deps) f ≡ map (λ x. x.deps) g → {x : Patch} → Contains f x → (y : Patch) × Contains g y × (y.info ≡ x.info) × (y.deps ≡ x.deps)
twin [] g e d c = absurd (none_of c)
twin (z ∷ f) [] e d c = absurd (cc)
twin (z ∷ f) (y ∷ g) e d {x} c =
    let i : z.info ≡ y.info = cc in
    let is : infos_of f ≡ infos_of g = cc in
    let j : z.deps ≡ y.deps = cc in
    let js : map (λ x. x.deps) f ≡ map (λ x. x.deps) g = cc in
    elim (one_of z f c) [
      | inl q ↦ (y, here y g, sym i ∙ ap (λ (w : Patch). w.info) q, sym j ∙ ap (λ (w : Patch). w.deps) q)
      | inr h ↦ let r = twin f g is js h in (r.0, more y g r.1, r.2, r.3)
    ]

closed_alike : (f g xs : List Patch) (context : List PatchInfo) → infos_of f ≡ infos_of g → map (λ x. x.deps) f ≡ map (λ x. x.deps) g → {i : PatchInfo} → Closed (f ++ xs) context i → Closed (g ++ xs) context i
closed_alike f g xs context e d (given h) = given h
closed_alike f g xs context e d (needed {x} {d = i} m c k) = by (closed_alike f g xs context e d c) (Contains-append_cases f xs x m)
  where
    by : Closed (g ++ xs) context x.info → Contains f x ⊎ Contains xs x → Closed (g ++ xs) context i
    by so_far (inl h) =
        let r = twin f g e d h in
        needed (Contains-append_left g xs r.0 r.1) (rw r.2 so_far) (rw r.3 k)
    by so_far (inr h) = needed (Contains-append_right g xs x h) so_far k

pub common_alike : CommonAlike
common_alike f g xs b e d c i h = by (c i (rw e h))
  where
    same : infos_of (f ++ xs) ≡ infos_of (g ++ xs)
    same = infos_of-append f xs ∙ ap (λ l. l ++ infos_of xs) e ∙ sym (infos_of-append g xs)

    by : Common (f ++ xs) b i → Common (g ++ xs) b i
    by (inl q) = inl (closed_alike f g xs b.context e d q)
    by (inr q) = inr (q.0, subst (λ (l : List PatchInfo). Contains l i) same q.1)
