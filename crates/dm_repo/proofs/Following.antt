-- A repository that is common as a whole: it is all front, and there is nothing to merge with.
use Rattle.std.proofs.Common.{◌≡◌, ℕ, ◌+◌, ◌≤◌, true, List, [], ◌∷◌, length, eqb, refl, sym, ap, ◌∙◌}
use Rattle.std.proofs.lemmas.Bool.{eqb-true}
use Rattle.std.proofs.lemmas.List.{length-map}
use Rattle.dm_tree.specs.Trees.{Tree}
use Rattle.dm_prim.specs.Primitives.{LawfulMap}
use Rattle.dm_named.specs.Patches.{Patch}
use Rattle.dm_bundle.specs.Bundles.{Contents}
use Rattle.dm_repo.specs.Staircases.{Split, nothing, stays, yields}
use Rattle.dm_repo.specs.declared.policy.Policy.{Policy}
use Rattle.dm_repo.specs.Squares.{Placed, patches, PlacedCommutes}
use Rattle.dm_repo.specs.Folds.{ShallowFold}
use Rattle.dm_repo.specs.Repositories.{IsTreeOf}
use Rattle.dm_repo.specs.Weighing.{IsBundleSplit, IsFull, MergeIsFull, Fits, IsMergeOf, most_patches}
use Rattle.dm_repo.proofs.NameLemmas.{no_length}
use Rattle.dm_repo.proofs.Placed.{patches_placed}
use Rattle.dm_repo.proofs.SiftLemmas.{some_new, whole_under}

-- a list whose length is tested
pub nothing_left : {X : Type 0} (xs : List X) (n : ℕ) → n ≡ length xs → true ≡ eqb n 0 → xs ≡ []
nothing_left xs n e t = no_length xs (sym e ∙ eqb-true n 0 (sym t))

-- where nothing is left beside the front, the front is all
all_front : {P : Type 0} (Square : P → P → P → P → Type 0) {In : P → Type 0} {xs front rest : List P} → Split Square In xs front rest → rest ≡ [] → front ≡ xs
all_front Square nothing e = refl
all_front Square (stays {h} i s) e = ap (λ l. h ∷ l) (all_front Square s e)
all_front Square (yields o s t) e = absurd (cc)

-- so its tree is the repository's
pub makes_whole : (repo : List Patch) (b : Contents) {front rest new : List Placed} (tree : Tree) → IsBundleSplit repo b front rest new → rest ≡ [] → IsTreeOf repo tree → IsTreeOf (patches front) tree
makes_whole repo b tree split none m = let e = all_front PlacedCommutes split.repo_split.split none in (m.0, m.1, rw (e, patches_placed 0 repo) m.2)

-- and what the repository makes the front makes
pub front_whole : (repo : List Patch) (b : Contents) {front rest new : List Placed} {t : LawfulMap} → IsBundleSplit repo b front rest new → rest ≡ [] → ShallowFold repo t → ShallowFold (patches front) t
front_whole repo b split none f = let e = all_front PlacedCommutes split.repo_split.split none in rw (e, patches_placed 0 repo) f

-- and the patches to merge start where the repository ends
pub folds_whole : (repo : List Patch) (b : Contents) {new : List Placed} (f : Fits repo b [] new) → ShallowFold repo f.base
folds_whole repo b f = let e = all_front PlacedCommutes f.bundle_split.repo_split.split refl in rw (e, patches_placed 0 repo) at f.folds

pub merges_whole : (repo : List Patch) (b : Contents) (policy : Policy) {new : List Placed} → Fits repo b [] new → length repo + length new ≤ most_patches → IsMergeOf repo b policy (patches new) 0
merges_whole repo b policy {new} f few = record {
  rest = [];
  new = new;
  new' = new;
  fits = f;
  merge = whole_under policy (some_new repo b f.bundle_split);
  is_merged = refl;
  appends = record { few = rw (length-map new (λ x. x.1)) few; tree = f.base; after = f.fitted; folds = folds_whole repo b f; leads = f.leads };
}

pub full_whole : (repo : List Patch) (b : Contents) (policy : Policy) {new : List Placed} → Fits repo b [] new → IsFull repo new → MergeIsFull repo b policy
full_whole repo b policy {new} f i = ([], new, new, 0, f, whole_under policy (some_new repo b f.bundle_split), i)
