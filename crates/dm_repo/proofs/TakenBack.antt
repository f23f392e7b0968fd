-- The part of a tree from which the last patches of a repository are taken back.
use Rattle.std.proofs.Common.{◌≡◌, ◌++◌, ℕ, List, take, drop, refl, sym, ap, subst, ◌∙◌, take-append-drop}
use Rattle.std.specs.List.{All}
use Rattle.std.specs.FinMap as map
use Rattle.dm_tree.specs.Paths.{Path}
use Rattle.dm_tree.specs.Trees.{Tree, Deep}
use Rattle.dm_tree.specs.Reach.{IsPart}
use Rattle.dm_prim.specs.InTurn.{InTurn}
use Rattle.dm_prim.specs.Primitives.{LawfulMap}
use Rattle.dm_prim.specs.Parts.{IsSameBut}
use Rattle.dm_prim.proofs.PartLemmas.{part_lawful}
use Rattle.dm_named.specs.Patches.{Patch}
use Rattle.dm_repo.specs.Folds.{IsStopped, PatchLeadsShallowly}
use Rattle.dm_repo.specs.Squares.{Placed, patches}
use Rattle.dm_repo.specs.Repositories.{IsMapOf, IsRepo, IsTreeOf}
use Rattle.dm_repo.specs.Stops.{StopsAt}
use Rattle.dm_repo.specs.Weighing.{FitStops}
use Rattle.dm_repo.specs.declared.stop.Stop.{Stop}
use Rattle.dm_repo.specs.declared.stop.Stop.TheVariants.{At, NoMemory}
use Rattle.dm_repo.specs.Trials.{AreTrialPaths, IsPartFor, IsTrialOf, PatchNamesUnder, undo_all}
use Rattle.dm_repo.proofs.Making.{fit_stops_all, grows_one}
use Rattle.dm_repo.proofs.Staircases.{runs_part}
use Rattle.dm_repo.proofs.Trees.{goes_all_one, runs_one}
use Rattle.dm_repo.proofs.TrialLemmas.{part_follows}
use Rattle.dm_repo.proofs.Tries.{all_first, all_second, under_undo}
use Rattle.dm_repo.proofs.UndoLemmas.{patches_shallow, root_shallow, undoing}

-- where no patch stops a row, memory ran out
pub only_memory : (stop : Stop) (Q : Placed → Type 0) → ((x : Placed) → Q x → ⊥) → StopsAt stop Q → stop ≡ NoMemory
only_memory (At k) Q none (x, e, q) = absurd (none x q)
only_memory NoMemory Q none h = refl

module _ (repo : List Patch) (k : ℕ) (front new : List Placed) (ok : IsRepo repo) (tree part : Tree) (ps : List Path) (b : IsTreeOf repo tree)
    (n : AreTrialPaths ((drop k repo ++ patches front) ++ patches new) ps) (i : IsPart ps (map.get tree) (map.get part)) where
  cut : (u : LawfulMap) × InTurn PatchLeadsShallowly (take k repo) ok.folds.start u × InTurn PatchLeadsShallowly (drop k repo) u ok.tree
  cut = runs_part (take k repo) (subst (λ z. InTurn PatchLeadsShallowly z ok.folds.start ok.tree) (sym (take-append-drop k repo)) ok.folds.runs)

  shallow : Deep cut.0.map → ⊥
  shallow = patches_shallow (take k repo) ok.folds.start cut.0 (root_shallow ok.folds.start ok.folds.is_root) cut.1

  same : ok.tree.map ≡ map.get tree
  same = ap (λ (z : LawfulMap). z.map) (grows_one repo ok.folds b.2) ∙ b.1

  pub is_part : IsPart ps ok.tree.map (map.get part)
  is_part = subst (λ z. IsPart ps z (map.get part)) (sym same) i

  -- the part of the whole tree
  unfoldable pub end_trial : LawfulMap
  end_trial = record { map = map.get part; lawful = part_lawful ps ok.tree.map (map.get part) ok.tree.lawful is_part }

  pub end_is : IsMapOf part end_trial
  unfolding end_trial
  end_is = refl

  is_end : IsTrialOf ps ok.tree end_trial
  unfolding end_trial
  is_end = record { part = is_part; shallow = patches_shallow (drop k repo) cut.0 ok.tree shallow cut.2 }

  behind_names : All (PatchNamesUnder ps) (drop k repo)
  behind_names = all_first (PatchNamesUnder ps) (drop k repo) (patches front) (all_first (PatchNamesUnder ps) (drop k repo ++ patches front) (patches new) n.names)

  -- it leads back to the part of the tree before
  back : (v : LawfulMap) × IsTrialOf ps cut.0 v × IsSameBut ps ok.tree.map cut.0.map × InTurn PatchLeadsShallowly (undo_all (drop k repo)) end_trial v
  back = part_follows ps (undo_all (drop k repo)) ok.tree cut.0 end_trial (under_undo ps (drop k repo) behind_names) is_end (undoing (drop k repo) cut.0 ok.tree shallow cut.2)

  pub undone_fits : (after : Tree) (v : LawfulMap) → IsMapOf after v → InTurn PatchLeadsShallowly (undo_all (drop k repo)) end_trial v → IsPartFor (take k repo) front new after
  undone_fits after v e l =
      let one : v ≡ back.0 = runs_one goes_all_one l back.3 in
      record {
        paths = ps;
        below = n.below;
        front_names = all_second (PatchNamesUnder ps) (drop k repo) (patches front) (all_first (PatchNamesUnder ps) (drop k repo ++ patches front) (patches new) n.names);
        new_names = all_second (PatchNamesUnder ps) (drop k repo ++ patches front) (patches new) n.names;
        whole = cut.0;
        folds = record { start = ok.folds.start; is_root = ok.folds.is_root; runs = cut.1 };
        trial = back.0;
        is_trial = back.1;
        is_map = subst (IsMapOf after) one e;
      }

  pub undone_never_stops : (xs : List Placed) → patches xs ≡ undo_all (drop k repo) → (x : Placed) → FitStops IsStopped end_trial xs x → ⊥
  undone_never_stops xs e x f = fit_stops_all f (subst (λ z. InTurn PatchLeadsShallowly z end_trial back.0) (sym e) back.3)
