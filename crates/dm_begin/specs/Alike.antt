-- When a repository answers as another does that has the same names and the same tree.
use Rattle.std.specs.Prelude.{◌≡◌, ◌≤◌, ◌↔◌, ◌≢◌, List, [], ◌++◌, length, map}
use Rattle.dm_tree.specs.Trees.{Tree}
use Rattle.dm_prim.specs.Primitives.{LawfulMap}
use Rattle.dm_named.specs.Patches.{Patch}
use Rattle.dm_bundle.specs.Patches.{infos_of}
use Rattle.dm_bundle.specs.Bundles.{Contents}
use Rattle.dm_repo.specs.declared.policy.Policy.{Policy}
use Rattle.dm_repo.specs.declared.weighed.Weighed.{Weighed}
use Rattle.dm_repo.specs.Folds.{ShallowFold}
use Rattle.dm_repo.specs.Repositories.{IsRepo, IsTreeOf}
use Rattle.dm_begin.specs.Sharing.{AreCommon}
use Rattle.dm_repo.specs.Weighing.{IsMergeOf, most_patches}
use Rattle.dm_repo.specs.Weighed.{Weighs}
use Rattle.dm_repo.specs.Laws.{Answer, AnswersWeighing}

-- the patches have the same names in the same order, and make the same tree
pub record StandAlike (f g : List Patch) : Type 0 where
  pub names : infos_of f ≡ infos_of g
  pub tree : LawfulMap
  pub first : ShallowFold f tree
  pub second : ShallowFold g tree

-- both are repositories under the same later patches xs, and the bundle has all names of f, which are those of g, in common with both
pub record ShareFirst (f g xs : List Patch) (b : Contents) : Type 0 where
  pub alike : StandAlike f g
  pub first : IsRepo (f ++ xs)
  pub second : IsRepo (g ++ xs)
  pub first_common : AreCommon (f ++ xs) b (infos_of f)
  pub second_common : AreCommon (g ++ xs) b (infos_of g)

-- weighing answers the same: the same refusal with the same places, that nothing is new, or the same merged patches, and as many skipped
abbrev pub AnswersAlike : Type 0
AnswersAlike = (f g xs : List Patch) (b : Contents) → ShareFirst f g xs b → (policy : Policy) (x : Answer) →
    AnswersWeighing (f ++ xs) b policy x ↔ AnswersWeighing (g ++ xs) b policy x

-- and the same part of the tree after them
abbrev pub WeighsAlike : Type 0 → Type 0
WeighsAlike Z = (f g xs : List Patch) (b : Contents) → ShareFirst f g xs b → (policy : Policy) (w : Weighed Z) →
    Weighs (f ++ xs) b policy w ↔ Weighs (g ++ xs) b policy w

-- under the same later patches, and so after what is merged too, they make the same trees
abbrev pub TreesStayAlike : Type 0
TreesStayAlike = (f g xs : List Patch) → StandAlike f g → (t : Tree) → IsTreeOf (f ++ xs) t ↔ IsTreeOf (g ++ xs) t

-- where patches of the same names also name the same dependencies, they are common with a bundle in both repositories, or in neither
abbrev pub CommonAlike : Type 0
CommonAlike = (f g xs : List Patch) (b : Contents) → infos_of f ≡ infos_of g → map (λ x. x.deps) f ≡ map (λ x. x.deps) g →
    AreCommon (f ++ xs) b (infos_of f) → AreCommon (g ++ xs) b (infos_of g)

-- the bundle of all patches of a repository
abbrev pub all_of : List Patch → Contents
all_of repo = record { patches = repo; context = [] }

-- a whole repository is merged into an empty one as it is, under either policy
abbrev pub WholeIsTaken : Type 0
WholeIsTaken = (repo : List Patch) (policy : Policy) → IsRepo repo → repo ≢ [] → length repo ≤ most_patches → IsMergeOf [] (all_of repo) policy repo 0
