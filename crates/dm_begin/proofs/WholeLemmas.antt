-- A whole repository is merged into an empty one.
use Rattle.std.proofs.Common.{arith, ◌≡◌, ◌≢◌, ◌≤◌, ◌+◌, ℕ, zero, suc, List, [], ◌∷◌, ◌++◌, length, take, slice_get, Some, inr, refl, sym, ap, ◌∙◌, append_assoc, append-nil}
use Rattle.std.specs.List.{Contains}
use Rattle.std.proofs.lemmas.List.{length-map}
use Rattle.dm_info.specs.PatchInfo.{PatchInfo}
use Rattle.dm_prim.specs.InTurn.{done}
use Rattle.dm_prim.specs.Rectangles.{none}
use Rattle.dm_named.specs.Patches.{Patch}
use Rattle.dm_bundle.specs.Patches.{infos_of}
use Rattle.dm_repo.specs.CommonSets.{HasAll, HasDependencies}
use Rattle.dm_repo.specs.Repositories.{IsRepo, NamesEarlier}
use Rattle.dm_repo.specs.Squares.{placed, placed_from, PlacedCommutes}
use Rattle.dm_repo.specs.Staircases.{Split, nothing, yields}
use Rattle.dm_repo.specs.Weighing.{Fits, IsHeld, most_patches}
use Rattle.dm_repo.proofs.Following.{merges_whole}
use Rattle.dm_repo.proofs.Members.{here, none_of}
use Rattle.dm_repo.proofs.Placed.{patches_placed}
use Rattle.dm_begin.specs.Alike.{all_of, WholeIsTaken}

-- where nothing is held nothing is in front
none_in_front : (n : ℕ) (xs : List Patch) → Split PlacedCommutes (IsHeld []) (placed_from n xs) [] (placed_from n xs)
none_in_front n [] = nothing
none_in_front n (x ∷ xs) = yields (λ h. none_of h) (none_in_front (n + 1) xs) none

-- what the patch at a place names is known, or stands before it
names_before : (known : List PatchInfo) (xs : List Patch) (n : ℕ) {x : Patch} {d : PatchInfo} → NamesEarlier known xs → slice_get xs n ≡ Some x → Contains x.deps d → Contains (known ++ infos_of (take n xs)) d
names_before known [] n e s c = absurd (cc)
names_before known (y ∷ ys) zero {x} {d} e s c = let f : x ≡ y = cc in rw (append-nil known) (e.0 d (rw f at c))
names_before known (y ∷ ys) (suc n) e s c = rw (append_assoc known (y.info ∷ []) (infos_of (take n ys))) at (names_before (known ++ y.info ∷ []) ys n e.1 s c)

has_dependencies : (repo : List Patch) → NamesEarlier [] repo → HasDependencies [] (all_of repo)
has_dependencies repo e n x d s new c = inr (names_before [] repo n e s c)

is_new : (repo : List Patch) → repo ≢ [] → HasAll [] (all_of repo) → ⊥
is_new [] some h = some refl
is_new (x ∷ xs) some h = none_of (h x.info (here x.info (infos_of xs)))

fits : (repo : List Patch) → IsRepo repo → repo ≢ [] → Fits [] (all_of repo) [] (placed repo)
fits repo r some = record {
  front = [];
  bundle_split = record {
    repo_split = record {
      prerequisites = record { knows = λ i c. absurd (none_of c); is_new = is_new repo some; has_dependencies = has_dependencies repo r.earlier };
      split = nothing;
    };
    held = [];
    split = none_in_front 0 repo;
  };
  base = r.folds.start;
  folds = record { start = r.folds.start; is_root = r.folds.is_root; runs = done };
  fitted = r.tree;
  leads = rw (patches_placed 0 repo) r.folds.runs;
}

few_placed : (repo : List Patch) → length repo ≤ most_patches → length {A = Patch} [] + length (placed repo) ≤ most_patches
few_placed repo few =
    let e : length (placed repo) ≡ length repo = sym (length-map (placed repo) (λ x. x.1)) ∙ ap length (patches_placed 0 repo) in
    omega (arith, e, few)

pub whole_is_taken : WholeIsTaken
whole_is_taken repo policy r some few = rw (patches_placed 0 repo) at (merges_whole [] (all_of repo) policy (fits repo r some) (few_placed repo few))
