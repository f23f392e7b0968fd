-- The part of a tree from which those of the last patches of a repository are taken back that don't stand aside.
use Rattle.std.proofs.Common.{◌≡◌, ◌++◌, ℕ, zero, suc, ◌+◌, ◌<◌, Bool, true, false, cond, List, [], ◌∷◌, length, take, drop, get_or, refl, sym, ap, subst, ◌∙◌, take-append-drop, arith}
use Rattle.std.specs.List.{All}
use Rattle.std.specs.FinMap as map
use Rattle.std.proofs.lemmas.List.{drop_more, map-append}
use Rattle.dm_tree.specs.Paths.{Path}
use Rattle.dm_tree.specs.Trees.{Tree, Deep}
use Rattle.dm_tree.specs.Reach.{AreBelowRoot, IsPart}
use Rattle.dm_prim.specs.InTurn.{InTurn}
use Rattle.dm_prim.specs.Primitives.{LawfulMap}
use Rattle.dm_prim.proofs.PartLemmas.{part_lawful}
use Rattle.dm_named.specs.Patches.{Patch}
use Rattle.dm_repo.specs.Aside.{LeavesAside}
use Rattle.dm_repo.specs.Folds.{IsStopped, PatchLeadsShallowly}
use Rattle.dm_repo.specs.Nearby.{behind, marked}
use Rattle.dm_repo.specs.Squares.{Placed, patches, placed_from}
use Rattle.dm_repo.specs.Repositories.{IsMapOf, IsRepo, IsTreeOf}
use Rattle.dm_repo.specs.Weighing.{FitStops}
use Rattle.dm_repo.specs.Trials.{IsPartFor, IsTrialOf, PatchNamesUnder, undo, undo_all}
use Rattle.dm_repo.proofs.AsideParts.{near_undone}
use Rattle.dm_repo.proofs.Making.{fit_stops_all, grows_one}
use Rattle.dm_repo.proofs.Placed.{patches_placed}
use Rattle.dm_repo.proofs.Staircases.{runs_part}
use Rattle.dm_repo.proofs.Trees.{goes_all_one, runs_one}
use Rattle.dm_repo.proofs.UndoLemmas.{patches_shallow, root_shallow}

module _ (repo : List Patch) (k : ℕ) (some : List Placed) (ok : IsRepo repo) (tree part : Tree) (ps : List Path) (b : IsTreeOf repo tree)
    (below : AreBelowRoot ps) (leaves : LeavesAside ps (behind k repo) some) (i : IsPart ps (map.get tree) (map.get part)) where
  cut : (u : LawfulMap) × InTurn PatchLeadsShallowly (take k repo) ok.folds.start u × InTurn PatchLeadsShallowly (drop k repo) u ok.tree
  cut = runs_part (take k repo) (subst (λ z. InTurn PatchLeadsShallowly z ok.folds.start ok.tree) (sym (take-append-drop k repo)) ok.folds.runs)

  shallow : Deep cut.0.map → ⊥
  shallow = patches_shallow (take k repo) ok.folds.start cut.0 (root_shallow ok.folds.start ok.folds.is_root) cut.1

  same : ok.tree.map ≡ map.get tree
  same = ap (λ (z : LawfulMap). z.map) (grows_one repo ok.folds b.2) ∙ b.1

  pub is_part : IsPart ps ok.tree.map (map.get part)
  is_part = subst (λ z. IsPart ps z (map.get part)) (sym same) i

  -- the part of the whole tree
  unfoldable pub near_end : LawfulMap
  near_end = record { map = map.get part; lawful = part_lawful ps ok.tree.map (map.get part) ok.tree.lawful is_part }

  pub near_end_is : IsMapOf part near_end
  unfolding near_end
  near_end_is = refl

  is_end : IsTrialOf ps ok.tree near_end
  unfolding near_end
  is_end = record { part = is_part; shallow = patches_shallow (drop k repo) cut.0 ok.tree shallow cut.2 }

  -- it leads back to the part of the tree before
  back : (v : LawfulMap) × IsTrialOf ps cut.0 v × InTurn PatchLeadsShallowly (undo_all (patches some)) near_end v
  back = near_undone ps leaves cut.0 ok.tree near_end shallow (subst (λ z. InTurn PatchLeadsShallowly z cut.0 ok.tree) (sym (patches_placed k (drop k repo))) cut.2) is_end

  pub near_undone_fits : (front new : List Placed) (after : Tree) (v : LawfulMap) → All (PatchNamesUnder ps) (patches front) → All (PatchNamesUnder ps) (patches new) →
      IsMapOf after v → InTurn PatchLeadsShallowly (undo_all (patches some)) near_end v → IsPartFor (take k repo) front new after
  near_undone_fits front new after v front_names new_names e l =
      let one : v ≡ back.0 = runs_one goes_all_one l back.2 in
      record {
        paths = ps;
        below = below;
        front_names = front_names;
        new_names = new_names;
        whole = cut.0;
        folds = record { start = ok.folds.start; is_root = ok.folds.is_root; runs = cut.1 };
        trial = back.0;
        is_trial = back.1;
        is_map = subst (IsMapOf after) one e;
      }

  pub near_never_stops : (xs : List Placed) → patches xs ≡ undo_all (patches some) → (x : Placed) → FitStops IsStopped near_end xs x → ⊥
  near_never_stops xs e x f = fit_stops_all f (subst (λ z. InTurn PatchLeadsShallowly z near_end back.0) (sym e) back.2)

-- those that are marked are undone from the end: of each place its patch, where it is marked
module _ (xs : List Patch) (marks : List Bool) where
  abbrev pub UndoneFrom : ℕ → List Placed → Type 0
  UndoneFrom p ys = patches ys ≡ undo_all (patches (marked marks (placed_from p (drop p xs))))

  from_here : (p : ℕ) (x : Patch) (b : Bool) → p < length xs → x ≡ get_or xs p x → get_or marks p false ≡ b →
      marked marks (placed_from p (drop p xs)) ≡ cond b ((p, x) ∷ marked marks (placed_from (p + 1) (drop (p + 1) xs))) (marked marks (placed_from (p + 1) (drop (p + 1) xs)))
  from_here p x b l e m =
      let there : drop p xs ≡ x ∷ drop (p + 1) xs = drop_more xs p x l ∙ ap (λ z. z ∷ drop (p + 1) xs) (sym e) in
      rw (there, m) refl

  pub undone_here : (p : ℕ) (x : Patch) (ys : List Placed) → p < length xs → x ≡ get_or xs p x → get_or marks p false ≡ true → UndoneFrom (p + 1) ys → UndoneFrom p (ys ++ (p, undo x) ∷ [])
  undone_here p x ys l e m h =
      map-append (λ (y : Placed). y.1) ys ((p, undo x) ∷ []) ∙ ap (λ z. z ++ undo x ∷ []) h ∙ ap (λ z. undo_all (patches z)) (sym (from_here p x true l e m))

  undone_past : (p : ℕ) (x : Patch) (ys : List Placed) → p < length xs → x ≡ get_or xs p x → get_or marks p false ≡ false → UndoneFrom (p + 1) ys → UndoneFrom p ys
  undone_past p x ys l e m h = h ∙ ap (λ z. undo_all (patches z)) (sym (from_here p x false l e m))

same_get : {X : Type 0} (zs : List X) (k : ℕ) (d : X) → k < length zs → get_or zs k d ≡ get_or zs k (get_or zs k d)
same_get [] k d l = absurd (omega (arith, l))
same_get (z ∷ zs) zero d l = refl
same_get (z ∷ zs) (suc k) d l = same_get zs k d (omega (arith, l))

pub undone_over : (xs : List Patch) (marks : List Bool) (p : ℕ) (ys : List Placed) → p < length xs → get_or marks p false ≡ false → UndoneFrom xs marks (p + 1) ys → UndoneFrom xs marks p ys
undone_over [] marks p ys l m h = absurd (omega (arith, l))
undone_over (z ∷ zs) marks p ys l m h = undone_past (z ∷ zs) marks p (get_or (z ∷ zs) p z) ys l (same_get (z ∷ zs) p z l) m h
