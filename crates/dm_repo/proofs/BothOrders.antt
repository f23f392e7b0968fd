-- Two bundles that rest on the whole of one repository, taken in both orders.
use Rattle.std.proofs.Common.{◌≡◌, ℕ, ◌+◌, List, [], ◌∷◌, ◌++◌, length, ◌⊎◌, inl, inr, refl, sym, ap, ap₂, ◌∙◌, append-nil}
use Rattle.std.specs.List.{Contains}
use Rattle.std.specs.FinMap as map
use Rattle.std.proofs.lemmas.List.Elements.{Contains-append_left, Contains-append_right, Contains-append_cases}
use Rattle.dm_info.specs.PatchInfo.{PatchInfo}
use Rattle.dm_tree.specs.Trees as trees
use Rattle.dm_tree.proofs.Trees.{path_total, path_same}
use Rattle.dm_prim.specs.InTurn.{InTurn}
use Rattle.dm_prim.specs.Rectangles.{CellRow, none, next}
use Rattle.dm_prim.specs.Primitives.{LawfulMap}
use Rattle.dm_named.specs.Patches.{Patch}
use Rattle.dm_bundle.specs.Patches.{infos_of}
use Rattle.dm_bundle.specs.Bundles.{Contents, HasNoDoubles}
use Rattle.dm_repo.specs.Staircases.{Split, nothing, stays, yields}
use Rattle.dm_repo.specs.Merging.{MergeRectangle, bare, over}
use Rattle.dm_repo.specs.Squares.{Placed, placed, placed_from, patches, Merges, PlacedCommutes, PlacedMerges}
use Rattle.dm_repo.specs.Folds.{PatchLeads, Fold}
use Rattle.dm_repo.specs.Repositories.{Holds, IsRepo, IsTreeOf}
use Rattle.dm_repo.specs.CommonSets.{Closed, given, needed, Common}
use Rattle.dm_repo.specs.Weighing.{IsCommon, IsHeld}
use Rattle.dm_repo.specs.Orders.{IsTaken, TakesInTurn, IsOverWhole, ShareNoPatch, AreAlike}
use Rattle.dm_repo.proofs.Staircases.{split_one, rect_one, rect_runs, runs_part}
use Rattle.dm_repo.proofs.Squares.{merges_one, merges_runs}
use Rattle.dm_repo.proofs.Turning.{merge_turn, merges_turn}
use Rattle.dm_repo.proofs.Trees.{leads_one, runs_one, fold_one, grows_fold}
use Rattle.dm_repo.proofs.Members.{here, more, none_of, in_infos, infos_of-append, dep_held}
use Rattle.dm_repo.proofs.Placed.{placed_one, patches_placed}
use Rattle.dm_repo.proofs.Splits.{placed_from-append}

-- Q holds of each
data Each {P : Type 0} (Q : P → Type 0) : List P → Type 0 where
  no_more : Each Q []
  and : {x : P} {xs : List P} → Q x → Each Q xs → Each Q (x ∷ xs)

-- a list that has all of the set in front is split as it stands
split_none : {P : Type 0} (Square : P → P → P → P → Type 0) (In : P → Type 0) (ys : List P) → Each (λ y. In y → ⊥) ys → Split Square In ys [] ys
split_none Square In [] no_more = nothing
split_none Square In (y ∷ ys) (and q e) = yields q (split_none Square In ys e) none

split_sorted : {P : Type 0} (Square : P → P → P → P → Type 0) (In : P → Type 0) (xs ys : List P) → Each In xs → Each (λ y. In y → ⊥) ys → Split Square In (xs ++ ys) xs ys
split_sorted Square In [] ys no_more e = split_none Square In ys e
split_sorted Square In (x ∷ xs) ys (and q d) e = stays q (split_sorted Square In xs ys d e)

each_placed : (Q : PatchInfo → Type 0) (n : ℕ) (xs : List Patch) → ((i : PatchInfo) → Holds xs i → Q i) → Each (λ (x : Placed). Q x.1.info) (placed_from n xs)
each_placed Q n [] h = no_more
each_placed Q n (x ∷ xs) h = and (h x.info (here x.info (infos_of xs))) (each_placed Q (n + 1) xs (λ i k. h i (more x.info (infos_of xs) k)))

-- a merge without places
row_patches : {x x' : Placed} {ys ys' : List Placed} → CellRow PlacedMerges x ys ys' x' → CellRow Merges x.1 (patches ys) (patches ys') x'.1
row_patches none = none
row_patches (next c s) = next c.merges (row_patches s)

merge_patches : {xs ys ys' xs' : List Placed} → MergeRectangle PlacedMerges xs ys ys' xs' → MergeRectangle Merges (patches xs) (patches ys) (patches ys') (patches xs')
merge_patches bare = bare
merge_patches (over s g) = over (row_patches s) (merge_patches g)

-- merged patches keep their names
row_names : {x x' : Patch} {ys ys' : List Patch} → CellRow Merges x ys ys' x' → infos_of ys' ≡ infos_of ys
row_names none = refl
row_names (next c s) = ap₂ (λ a b. a ∷ b) c.n_stays.info (row_names s)

merge_names : {xs ys ys' xs' : List Patch} → MergeRectangle Merges xs ys ys' xs' → infos_of ys' ≡ infos_of ys
merge_names bare = refl
merge_names (over s g) = merge_names g ∙ row_names s

-- the new patches as they were merged with back, and appended to the repository
record MergedPast (repo back new after : List Patch) : Type 0 where
  merged : List Patch
  left : List Patch
  merges : MergeRectangle Merges back new merged left
  appended : after ≡ repo ++ merged

-- all of front is common, none of back is, and nothing of the bundle is held
sorted : (front back : List Patch) (b : Contents) (after : List Patch) → IsTaken (front ++ back) b after →
    ((i : PatchInfo) → Holds front i → Common (front ++ back) b i) → ((i : PatchInfo) → Holds back i → Common (front ++ back) b i → ⊥) →
    ((i : PatchInfo) → Holds b.patches i → Holds (front ++ back) i → ⊥) → MergedPast (front ++ back) back b.patches after
sorted front back b after t in_front in_back not_held =
    let m = t.is_merge in
    let c = m.fits.bundle_split in
    let e = split_one Placed PlacedCommutes placed_one (IsCommon (front ++ back) b) (placed_from-append 0 front back) c.repo_split.split
    (split_sorted PlacedCommutes (IsCommon (front ++ back) b) (placed front) (placed_from (0 + length front) back)
    (each_placed (Common (front ++ back) b) 0 front in_front)
    (each_placed (λ i. Common (front ++ back) b i → ⊥) (0 + length front) back in_back)) in
    let f = split_one Placed PlacedCommutes placed_one (IsHeld (front ++ back)) refl c.split
    (split_none PlacedCommutes (IsHeld (front ++ back)) (placed b.patches) (each_placed (λ i. Holds (front ++ back) i → ⊥) 0 b.patches not_held)) in
    let r = patches_placed (0 + length front) back in
    let n = patches_placed 0 b.patches in
    record {
      merged = patches m.new';
      left = patches m.merge.0.0;
      merges = rw (ap patches e.1 ∙ r, ap patches f.1 ∙ n) at (merge_patches m.merge.0.1);
      appended = t.appended ∙ ap (λ l. (front ++ back) ++ l) m.is_merged;
    }

merged_with_none : {ys ys' xs' : List Patch} → MergeRectangle Merges [] ys ys' xs' → ys' ≡ ys
merged_with_none bare = refl

-- a bundle over the whole of repo, alone
first_is : (repo : List Patch) (b : Contents) (after : List Patch) → HasNoDoubles b.patches b.context → IsOverWhole repo b → IsTaken repo b after → after ≡ repo ++ b.patches
first_is repo b after ok whole t = go (sorted repo [] b after (rw (← append-nil repo) at t) (λ i h. inl (given ((whole i).1 h))) (λ i h. absurd (none_of h)) new)
  where
    new : (i : PatchInfo) → Holds b.patches i → Holds (repo ++ []) i → ⊥
    new i h k = let j : Holds repo i = rw (append-nil repo) at k in ok.apart i h ((whole i).1 j)

    go : MergedPast (repo ++ []) [] b.patches after → after ≡ repo ++ b.patches
    go m = m.appended ∙ ap₂ (λ xs ys. xs ++ ys) (append-nil repo) (merged_with_none m.merges)

-- the closed context holds nothing but repo
closed_held : (repo extra : List Patch) (c : Contents) → IsRepo repo → ((i : PatchInfo) → Holds extra i → Holds repo i → ⊥) →
    ((i : PatchInfo) → Contains c.context i → Holds repo i) → {i : PatchInfo} → Closed (repo ++ extra) c.context i → Holds repo i
closed_held repo extra c ok apart whole (given {i} h) = whole i h
closed_held repo extra c ok apart whole (needed {x} {d} m cl dep) = go (closed_held repo extra c ok apart whole cl) (Contains-append_cases repo extra x m)
  where
    go : Holds repo x.info → Contains repo x ⊎ Contains extra x → Holds repo d
    go ih (inl r) = dep_held [] repo ok.earlier r dep
    go ih (inr q) = absurd (apart x.info (in_infos extra q) ih)

-- then another over the whole of repo
second_is : (repo : List Patch) (b c : Contents) (after : List Patch) → IsRepo repo → HasNoDoubles b.patches b.context → HasNoDoubles c.patches c.context →
    ShareNoPatch b c → IsOverWhole repo b → IsOverWhole repo c → IsTaken (repo ++ b.patches) c after → MergedPast (repo ++ b.patches) b.patches c.patches after
second_is repo b c after ok okb okc apart wb wc t = sorted repo b.patches c after t
    (λ i h. inl (given ((wc i).1 h)))
    (λ i h k. elim k [
      | inl d ↦ fresh i h (closed_held repo b.patches c ok fresh (λ j x. (wc j).0 x) d)
      | inr d ↦ apart i h d.0
    ])
    (λ i h k. not_held i h (Contains-append_cases (infos_of repo) (infos_of b.patches) i (rw (infos_of-append repo b.patches) at k)))
  where
    fresh : (i : PatchInfo) → Holds b.patches i → Holds repo i → ⊥
    fresh i h k = okb.apart i h ((wb i).1 k)

    not_held : (i : PatchInfo) → Holds c.patches i → Holds repo i ⊎ Holds b.patches i → ⊥
    not_held i h (inl r) = okc.apart i h ((wc i).1 r)
    not_held i h (inr n) = apart i n h

-- the names of three lists, in either order
among : (xs ys zs : List Patch) → {i : PatchInfo} → Holds ((xs ++ ys) ++ zs) i → (Holds xs i ⊎ Holds ys i) ⊎ Holds zs i
among xs ys zs {i} h = go (Contains-append_cases (infos_of (xs ++ ys)) (infos_of zs) i (rw (infos_of-append (xs ++ ys) zs) at h))
  where
    go : Holds (xs ++ ys) i ⊎ Holds zs i → (Holds xs i ⊎ Holds ys i) ⊎ Holds zs i
    go (inl k) = inl (Contains-append_cases (infos_of xs) (infos_of ys) i (rw (infos_of-append xs ys) at k))
    go (inr k) = inr k

together : (xs ys zs : List Patch) → {i : PatchInfo} → (Holds xs i ⊎ Holds ys i) ⊎ Holds zs i → Holds ((xs ++ ys) ++ zs) i
together xs ys zs {i} h = rw (infos_of-append (xs ++ ys) zs, infos_of-append xs ys) (go h)
  where
    go : (Holds xs i ⊎ Holds ys i) ⊎ Holds zs i → Contains ((infos_of xs ++ infos_of ys) ++ infos_of zs) i
    go (inl (inl k)) = Contains-append_left (infos_of xs ++ infos_of ys) (infos_of zs) i (Contains-append_left (infos_of xs) (infos_of ys) i k)
    go (inl (inr k)) = Contains-append_left (infos_of xs ++ infos_of ys) (infos_of zs) i (Contains-append_right (infos_of xs) (infos_of ys) i k)
    go (inr k) = Contains-append_right (infos_of xs ++ infos_of ys) (infos_of zs) i k

swapped : (repo b c bs cs : List Patch) → infos_of bs ≡ infos_of b → infos_of cs ≡ infos_of c → (i : PatchInfo) → Holds ((repo ++ b) ++ cs) i → Holds ((repo ++ c) ++ bs) i
swapped repo b c bs cs e f i h = together repo c bs (go (among repo b cs h))
  where
    go : (Holds repo i ⊎ Holds b i) ⊎ Holds cs i → (Holds repo i ⊎ Holds c i) ⊎ Holds bs i
    go (inl (inl k)) = inl (inl k)
    go (inl (inr k)) = inr (rw e k)
    go (inr k) = inl (inr (rw f at k))

-- the trees, where one merge is the other turned round
same_ends : (repo b c bs cs rs qs : List Patch) (s t : LawfulMap) → MergeRectangle Merges b c cs rs → MergeRectangle Merges c b bs qs → Fold ((repo ++ b) ++ cs) s → Fold ((repo ++ c) ++ bs) t → s ≡ t
same_ends repo b c bs cs rs qs s t g h f k =
    let e : rs ≡ bs = (rect_one Patch Merges merges_one refl (merge_turn Patch Merges merges_turn g) h).0 in
    let f1 = runs_part (repo ++ b) f.runs in let f2 = runs_part repo f1.1 in
    let k1 = runs_part (repo ++ c) k.runs in let k2 = runs_part repo k1.1 in
    let u : f2.0 ≡ k2.0 = fold_one repo f2.0 k2.0 (record { start = f.start; is_root = f.is_root; runs = f2.1 }) (record { start = k.start; is_root = k.is_root; runs = k2.1 }) in
    ends e f2.2 f1.2 (rw (← u) at k2.2) k1.2
  where
    ends : {u m n : LawfulMap} → rs ≡ bs → InTurn PatchLeads b u m → InTurn PatchLeads cs m s → InTurn PatchLeads c u n → InTurn PatchLeads bs n t → s ≡ t
    ends e rb rcs rc rbs =
        let z = rect_runs Patch LawfulMap Merges PatchLeads merges_runs g rb rc in
        runs_one leads_one rcs z.1 ∙ sym (runs_one leads_one (rw (← e) at rbs) z.2)

same_trees : (xs ys : List Patch) → ((s t : LawfulMap) → Fold xs s → Fold ys t → s ≡ t) → (s t : trees.Tree) → IsTreeOf xs s → IsTreeOf ys t → s ≡ t
same_trees xs ys f s t (u, e, g) (v, d, h) = let same : u ≡ v = f u v (grows_fold xs u g) (grows_fold ys v h) in map.same_map path_total path_same s t (λ p. ap (λ m. m p) (sym e ∙ ap (λ (z : LawfulMap). z.map) same ∙ d))

alike : (repo b c : List Patch) {xs ys : List Patch} → MergedPast (repo ++ b) b c xs → MergedPast (repo ++ c) c b ys → AreAlike xs ys
alike repo b c {xs} {ys} m n =
    let e = merge_names {ys = c} {ys' = m.merged} {xs' = m.left} m.merges in
    let d = merge_names {ys = b} {ys' = n.merged} {xs' = n.left} n.merges in
    record {
      trees = same_trees xs ys (λ s t f k. same_ends repo b c n.merged m.merged m.left n.left s t m.merges n.merges (rw m.appended at f) (rw n.appended at k));
      names = λ i. (
        λ x. rw n.appended (swapped repo b c n.merged m.merged d e i (rw m.appended at x)),
        λ x. rw m.appended (swapped repo c b m.merged n.merged e d i (rw n.appended at x)),
      );
    }

pub both_orders : (repo : List Patch) (b c : Contents) (xs ys : List Patch) → IsRepo repo → HasNoDoubles b.patches b.context → HasNoDoubles c.patches c.context →
    TakesInTurn repo b c xs → TakesInTurn repo c b ys → IsOverWhole repo b → IsOverWhole repo c → ShareNoPatch b c → AreAlike xs ys
both_orders repo b c xs ys ok okb okc p q wb wc apart =
    let d : p.between ≡ repo ++ b.patches = first_is repo b p.between okb wb p.first in
    let e : q.between ≡ repo ++ c.patches = first_is repo c q.between okc wc q.first in
    alike repo b.patches c.patches
    (second_is repo b c xs ok okb okc apart wb wc (rw d at p.second))
    (second_is repo c b ys ok okc okb (λ i x y. apart i y x) wc wb (rw e at q.second))
