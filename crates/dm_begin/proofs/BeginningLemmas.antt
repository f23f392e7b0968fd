-- The primitives of a tree, spread over names, are a beginning.
use Rattle.std.proofs.Common.{◌≡◌, ◌<◌, ◌≤◌, Bool, true, false, cond, List, [], ◌∷◌, ◌++◌, length, sym, ap, ◌∙◌, arith}
use Rattle.std.specs.List.{AllByRecursion}
use Rattle.std.specs.FinMap.{entries, get, get-entries, entries_sorted, find}
use Rattle.dm_info.specs.PatchInfo.{PatchInfo}
use Rattle.dm_tree.specs.Paths.{Path}
use Rattle.dm_tree.specs.Trees.{Entry, Dir, File, Tree, IsLawful, Deep, path_cmp}
use Rattle.dm_prim.specs.Primitives.{Prim, LawfulMap, At, Hunk}
use Rattle.dm_named.specs.Kinds.{IsOf}
use Rattle.dm_named.specs.Limits.{own}
use Rattle.dm_named.specs.declared.limits.Kinds.TheVariants as these
use Rattle.dm_bundle.specs.Patches.{infos_of, Distinct}
use Rattle.dm_bundle.specs.Bundles.{HasNoDoubles}
use Rattle.dm_repo.specs.Folds.{IsRoot, ShallowFold}
use Rattle.dm_repo.proofs.Members.{none_of}
use Rattle.dm_repo.proofs.Trees.{empty_repo}
use Rattle.dm_repo.specs.declared.policy.Policy.{Policy}
use Rattle.dm_repo.specs.Weighing.{IsMergeOf}
use Rattle.dm_named.specs.Patches.{Patch}
use Rattle.dm_begin.specs.Alike.{all_of}
use Rattle.dm_begin.specs.Beginnings.{IsBeginning}
use Rattle.dm_begin.specs.Making.{is_blank, making, making_all, rows, tree_prims}
use Rattle.dm_begin.specs.Spreading.{spread, SpreadIsBeginning, BeginningIsTaken}
use Rattle.dm_begin.proofs.OrderLemmas.{Rows, in_order, root_first}
use Rattle.dm_begin.proofs.WholeLemmas.{whole_is_taken}
use Rattle.dm_begin.proofs.GrowthLemmas.{LeadsTo, grows}
use Rattle.dm_begin.proofs.SpreadLemmas.{Fit, spread_names, spread_chain, spread_prims, spread_few, spread_length, spread_packed, spread_earlier, spread_leads, spread_six}

-- what makes a tree is of the six kinds
six_on : (xs ys : List Prim) → AllByRecursion (IsOf these.Six) xs → AllByRecursion (IsOf these.Six) ys → AllByRecursion (IsOf these.Six) (xs ++ ys)
six_on [] ys a b = b
six_on (x ∷ xs) ys a b = (a.0, six_on xs ys a.1 b)

six_making : (p : Path) (e : Entry) → AllByRecursion (IsOf these.Six) (making p e)
six_making p Dir = (tt, tt)
six_making p (File ls) = (tt, by (is_blank ls))
  where
    by : (b : Bool) → AllByRecursion (IsOf these.Six) (cond b [] (At p (Hunk 1 ([] ∷ []) ls) ∷ []))
    by true = tt
    by false = (tt, tt)

six_all : (rs : Rows) → AllByRecursion (IsOf these.Six) (making_all rs)
six_all [] = tt
six_all (r ∷ rs) = six_on (making r.0 r.1) (making_all rs) (six_making r.0 r.1) (six_all rs)

-- the root alone has the first entry of a tree
start : LawfulMap
start = empty_repo.folds.start

is_root : IsRoot start
unfolding start
is_root = empty_repo.folds.is_root

root_found : (q : Path) → start.map q ≡ find path_cmp q (([], Dir) ∷ [])
root_found [] = is_root.root
root_found (n ∷ q) = is_root.alone n q

root_shallow : Deep start.map → ⊥
root_shallow ([], deep, some) = omega (arith, deep)
root_shallow (n ∷ q, deep, some) = some (is_root.alone n q)

module _ (t : Tree) (lawful : IsLawful (get t)) (shallow : Deep (get t) → ⊥) where
  root_entry : (rs : Rows) × (entries t ≡ ([], Dir) ∷ rs)
  root_entry = root_first (entries t) (in_order (entries t) (entries_sorted t)) (sym (get-entries t []) ∙ lawful.root)

  grown : LeadsTo (tree_prims t) start (get t)
  grown =
      let r = root_entry in
      let g = grows t lawful shallow (([], Dir) ∷ []) r.0 r.1 start (record { is = root_found; shallow_so_far = root_shallow }) in
      rw r.1 g

  pub is_beginning : (names : List PatchInfo) → Distinct names → length names ≤ own.patches → Fit (tree_prims t) names → IsBeginning names t (spread [] names (tree_prims t))
  is_beginning names distinct few fit =
      let ps = tree_prims t in
      let runs = spread_leads [] names ps fit grown.leads in
      let folds : ShallowFold (spread [] names ps) grown.end = record { start = start; is_root = is_root; runs = runs } in
      record {
        named = spread_names [] names ps;
        chained = spread_chain [] names ps;
        keeps = record {
          valid = record { distinct = rw (spread_names [] names ps) distinct; earlier = spread_earlier [] [] names ps (λ d c. c); tree = grown.end; folds = folds };
          makes = (grown.end, grown.is, folds);
        };
        makes = spread_prims [] names ps fit;
        packed = spread_packed [] names ps fit;
        few = record { count = rw (spread_length [] names ps) few; prims = spread_few [] names ps fit; replaces = tt };
        of_six = spread_six [] names ps (six_all (rows t));
      }

-- patches of distinct names, with nothing before them, are a bundle
pub no_doubles : {names : List PatchInfo} (patches : List _) → infos_of patches ≡ names → Distinct names → HasNoDoubles patches []
no_doubles patches e d = record { distinct = rw e d; apart = λ i h k. none_of k }

-- an empty repository takes them
pub begun_is_taken : {names : List PatchInfo} {t : Tree} {patches : List Patch} → IsBeginning names t patches → 0 < length names → (policy : Policy) → IsMergeOf [] (all_of patches) policy patches 0
begun_is_taken {names} {patches = patches} b some policy =
    whole_is_taken patches policy b.keeps.valid (λ none. let l : length (infos_of patches) ≡ length names = ap length b.named in let z : length (infos_of patches) ≡ 0 = ap (λ (xs : List Patch). length (infos_of xs)) none in omega (arith, some, l, z)) b.few.count

pub spread_is_beginning : SpreadIsBeginning
spread_is_beginning t names lawful shallow distinct few fit = is_beginning t lawful shallow names distinct few fit

pub beginning_is_taken : BeginningIsTaken
beginning_is_taken names t patches policy some b = begun_is_taken b some policy
