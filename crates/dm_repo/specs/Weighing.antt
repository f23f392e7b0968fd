-- What weighing a bundle against a repository returns (`darcs apply --no-allow-conflicts` where a conflict is refused, `--skip-conflicts` where
-- patches are skipped; the order of the refusals and the limits are this project's). Each step, and each refusal, holds what the steps before it found.
use Rattle.std.specs.Prelude.{◌≡◌, ℕ, ◌+◌, ◌≤◌, ◌<◌, List, ◌∷◌, ◌++◌, length, ◌⊎◌}
use Rattle.dm_prim.specs.InTurn.{InTurn}
use Rattle.dm_prim.specs.Primitives.{Prim, LawfulMap}
use Rattle.dm_named.specs.Limits.{own}
use Rattle.dm_named.specs.Patches.{Patch}
use Rattle.dm_bundle.specs.Bundles.{Contents}
use Rattle.dm_repo.specs.declared.policy.Policy.{Policy}
use Rattle.dm_repo.specs.declared.refusal.Refusal.{Refusal}
use Rattle.dm_repo.specs.declared.refusal.Refusal.TheVariants.{MissingContext, MissingDependency, ContextDepends, HeldDepends}
use Rattle.dm_repo.specs.declared.refusal.Refusal.TheVariants.{DoesNotFit, Conflicts, Full, NoMemory}
use Rattle.dm_repo.specs.Staircases.{Split, SplitStops}
use Rattle.dm_repo.specs.Sifting.{MergesUnder, ConflictsUnder}
use Rattle.dm_repo.specs.Squares.{Placed, placed, patches, PlacedCommutes}
use Rattle.dm_repo.specs.Stops.{AtPlaces}
use Rattle.dm_repo.specs.Folds.{IsRoot, PatchLeadsShallowly, GoesPastLimits, IsStopped, PatchStops, ShallowFold}
use Rattle.dm_repo.specs.Repositories.{Holds}
use Rattle.dm_repo.specs.CommonSets.{Common, KnowsContext, HasAll, HasDependencies, First, LacksAt, LacksFirst}

-- the patch's name is common
abbrev pub IsCommon : List Patch → Contents → Placed → Type 0
IsCommon repo b x = Common repo b x.1.info

-- the patch's name is held
abbrev pub IsHeld : List Patch → Placed → Type 0
IsHeld repo x = Holds repo x.1.info

-- a repository of more patches is full; the text of one's own repository may have as many
abbrev pub most_patches : ℕ
most_patches = own.patches

-- the context is held, something is new, and no dependency is missing
pub record HasPrerequisites (repo : List Patch) (b : Contents) : Type 0 where
  pub knows : KnowsContext repo b
  pub is_new : HasAll repo b → ⊥
  pub has_dependencies : HasDependencies repo b

-- and the repository is split: the common patches in front, and the rest, the others
pub record IsRepoSplit (repo : List Patch) (b : Contents) (front rest : List Placed) : Type 0 where
  pub prerequisites : HasPrerequisites repo b
  pub split : Split PlacedCommutes (IsCommon repo b) (placed repo) front rest

-- and the bundle is split: the new patches that are held, and the others, which are to be merged
pub record IsBundleSplit (repo : List Patch) (b : Contents) (front rest new : List Placed) : Type 0 where
  pub repo_split : IsRepoSplit repo b front rest
  pub held : List Placed
  pub split : Split PlacedCommutes (IsHeld repo) (placed b.patches) held new

-- the patches lead shallowly from s up to x, and so do the primitives of x up to one, of which Q holds there
pub record FitStops (Q : Prim → LawfulMap → Type 0) (s : LawfulMap) (xs : List Placed) (x : Placed) : Type 0 where
  pub before : List Placed
  pub after : List Placed
  pub tree : LawfulMap
  pub at : xs ≡ before ++ x ∷ after
  pub leads : InTurn PatchLeadsShallowly (patches before) s tree
  pub stops : PatchStops Q x.1 tree

-- the patches are applied from s on, and one of their primitives goes past a limit
abbrev pub RunsPastLimits : LawfulMap → List Placed → Type 0
RunsPastLimits s xs = (x : Placed) × FitStops GoesPastLimits s xs x

-- and the front makes a tree to which the patches to merge apply
pub record Fits (repo : List Patch) (b : Contents) (rest new : List Placed) : Type 0 where
  pub front : List Placed
  pub bundle_split : IsBundleSplit repo b front rest new
  pub base : LawfulMap
  pub folds : ShallowFold (patches front) base
  pub fitted : LawfulMap
  pub leads : InTurn PatchLeadsShallowly (patches new) base fitted

-- there would be too many patches, or one goes past a limit while the merged ones are applied to the repository's tree
abbrev pub IsFull : List Patch → List Placed → Type 0
IsFull repo merged = (most_patches < length repo + length merged) ⊎ ((tree : LawfulMap) × ShallowFold repo tree × RunsPastLimits tree merged)

-- a patch goes past a limit while the front is applied from the root alone
abbrev pub FrontIsFull : List Patch → Contents → Type 0
FrontIsFull repo b =
    (front : List Placed) × (rest : List Placed) × (new : List Placed) ×
    IsBundleSplit repo b front rest new × ((start : LawfulMap) × IsRoot start × RunsPastLimits start front)

-- the bundle is merged, and then the repository is too full for it
abbrev pub MergeIsFull : List Patch → Contents → Policy → Type 0
MergeIsFull repo b policy =
    (rest : List Placed) × (new : List Placed) × (merged : List Placed) × (skipped : ℕ) ×
    Fits repo b rest new × MergesUnder policy rest new merged skipped × IsFull repo merged

-- when each refusal comes, in the order of the steps: the place or the pair is the first; memory may run out at any time
abbrev pub RefusesBundle : List Patch → Contents → Policy → Refusal → Type 0
RefusesBundle repo b policy (MissingContext c) = First (LacksAt repo b.context) c
RefusesBundle repo b policy (MissingDependency n d) =
    KnowsContext repo b × (HasAll repo b → ⊥) × LacksFirst repo b n d
RefusesBundle repo b policy (ContextDepends h r) = HasPrerequisites repo b × AtPlaces (SplitStops PlacedCommutes (IsCommon repo b) (placed repo)) h r
RefusesBundle repo b policy (HeldDepends h n) =
    (front : List Placed) × (rest : List Placed) × IsRepoSplit repo b front rest ×
    AtPlaces (SplitStops PlacedCommutes (IsHeld repo) (placed b.patches)) h n
RefusesBundle repo b policy (DoesNotFit n) =
    (front : List Placed) × (rest : List Placed) × (new : List Placed) × IsBundleSplit repo b front rest new ×
    ((base : LawfulMap) × (x : Placed) × (n ≡ x.0) × ShallowFold (patches front) base × FitStops IsStopped base new x)
RefusesBundle repo b policy (Conflicts n r) =
    (rest : List Placed) × (new : List Placed) × Fits repo b rest new × AtPlaces (ConflictsUnder policy rest new) n r
RefusesBundle repo b policy Full = FrontIsFull repo b ⊎ MergeIsFull repo b policy
RefusesBundle repo b policy NoMemory = Unit {0}

-- there is nothing to do: the context and every new patch are held
pub record IsNothingNew (repo : List Patch) (b : Contents) : Type 0 where
  pub knows : KnowsContext repo b
  pub all_held : HasAll repo b

-- the patches lead on shallowly from the repository's tree, and there are not too many
pub record Appends (repo new : List Patch) : Type 0 where
  pub few : length repo + length new ≤ most_patches
  pub tree : LawfulMap
  pub after : LawfulMap
  pub folds : ShallowFold repo tree
  pub leads : InTurn PatchLeadsShallowly new tree after

-- these are the bundle's patches, merged so that they apply after the repository, but for so many that are skipped
pub record IsMergeOf (repo : List Patch) (b : Contents) (policy : Policy) (merged : List Patch) (skipped : ℕ) : Type 0 where
  pub rest : List Placed
  pub new : List Placed
  pub new' : List Placed
  pub fits : Fits repo b rest new
  pub merge : MergesUnder policy rest new new' skipped
  pub is_merged : merged ≡ patches new'
  pub appends : Appends repo merged
