-- Patches tried on a part of a tree: on what some paths reach.
use Rattle.std.specs.Prelude.{◌≡◌, ◌↔◌, Bool, true, false, List, [], ◌∷◌, ◌++◌}
use Rattle.std.specs.List.{All, Contains}
use Rattle.std.specs.FinMap as map
use Rattle.dm_tree.specs.Paths.{Path}
use Rattle.dm_tree.specs.Trees.{Map, Tree, Deep, IsLawful}
use Rattle.dm_tree.specs.Reach.{AreBelowRoot, AreTops, IsPart, Puts}
use Rattle.dm_prim.specs.InTurn.{InTurn}
use Rattle.dm_prim.specs.Primitives.{LawfulMap, inv_all}
use Rattle.dm_prim.specs.Touch.{NamesAmong}
use Rattle.dm_prim.specs.Parts.{IsSameBut, NamesUnder}
use Rattle.dm_named.specs.Patches.{Patch}
use Rattle.dm_repo.specs.Folds.{PatchLeadsShallowly, IsStopped, ShallowFold}
use Rattle.dm_repo.specs.Squares.{Placed, patches}
use Rattle.dm_repo.specs.Repositories.{IsMapOf, IsRepo, IsTreeOf}
use Rattle.dm_repo.specs.Weighing.{FitStops, RunsPastLimits}

-- all that the patch names is among these paths
pub record PatchNamesAmong (ps : List Path) (x : Patch) : Type 0 where
  pub each : All (NamesAmong ps) x.prims

-- all that the patch names is at or under these paths
pub record PatchNamesUnder (ps : List Path) (x : Patch) : Type 0 where
  pub each : All (NamesUnder ps) x.prims

-- the paths are those from before, and more, among which is all that the patches name
pub record AddsPaths (xs : List Patch) (old new : List Path) : Type 0 where
  pub keeps : (f : Path) → Contains old f → Contains new f
  pub names : All (PatchNamesAmong new) xs

-- none of these paths is the root, none is at or under another one, and all that the patches name is at or under them
pub record AreTrialPaths (xs : List Patch) (ps : List Path) : Type 0 where
  pub below : AreBelowRoot ps
  pub tops : AreTops ps
  pub names : All (PatchNamesUnder ps) xs

-- u is the part of s, which is not too deep
pub record IsTrialOf (ps : List Path) (s u : LawfulMap) : Type 0 where
  pub part : IsPart ps s.map u.map
  pub shallow : Deep s.map → ⊥

-- what the patches name reaches this part of the tree, which is not too deep
pub record ReachesPart (tree : Tree) (xs : List Patch) (ps : List Path) (part : Tree) : Type 0 where
  pub paths : AreTrialPaths xs ps
  pub is_part : IsPart ps (map.get tree) (map.get part)
  pub is_lawful : IsLawful (map.get tree)
  pub shallow : Deep (map.get tree) → ⊥

-- the patches lead shallowly on from s, change it at and under these paths alone, and this is the part of what they make
pub record MakesPartOf (s : LawfulMap) (xs : List Patch) (ps : List Path) (part : Map) : Type 0 where
  pub below : AreBelowRoot ps
  pub tops : AreTops ps
  pub after : LawfulMap
  pub leads : InTurn PatchLeadsShallowly xs s after
  pub rest : IsSameBut ps s.map after.map
  pub is_part : IsPart ps after.map part

-- the new patches lead shallowly on from the repository's tree, change it at and under these paths alone, and this is the part of the tree after them
pub record MakesPart (repo new : List Patch) (ps : List Path) (part : Map) : Type 0 where
  pub before : LawfulMap
  pub folds : ShallowFold repo before
  pub makes : MakesPartOf before new ps part

-- with the new patches the repository is one again, and this is the part of the tree after them
pub record KeepsPart (repo new : List Patch) (ps : List Path) (part : Map) : Type 0 where
  pub valid : IsRepo (repo ++ new)
  pub makes : MakesPart repo new ps part

-- the part is in the place of the tree, where it is the whole, or is put into it
abbrev pub ReplacesPart : Bool → List Path → Tree → Tree → Tree → Type 0
ReplacesPart true ps tree part after = after ≡ part
ReplacesPart false ps tree part after = Puts ps (map.get tree) (map.get part) (map.get after)

-- the patch with the inverse of its primitives
abbrev pub undo : Patch → Patch
undo x = record { info = x.info; deps = x.deps; prims = inv_all x.prims }

-- patches that undo these: each undone, the last one first
abbrev pub undo_all : List Patch → List Patch
undo_all [] = []
undo_all (x ∷ xs) = undo_all xs ++ undo x ∷ []

-- the part of the tree of these patches that reaches what two lists of patches name
pub record IsPartFor (kept : List Patch) (front new : List Placed) (part : Tree) : Type 0 where
  pub paths : List Path
  pub below : AreBelowRoot paths
  pub front_names : All (PatchNamesUnder paths) (patches front)
  pub new_names : All (PatchNamesUnder paths) (patches new)
  pub whole : LawfulMap
  pub folds : ShallowFold kept whole
  pub trial : LawfulMap
  pub is_trial : IsTrialOf paths whole trial
  pub is_map : IsMapOf part trial

-- what leads on from the whole leads on from the part, to the part of where it leads
abbrev pub PartFollows : Type 0
PartFollows = (ps : List Path) (xs : List Patch) (s t u : LawfulMap) → All (PatchNamesUnder ps) xs → IsTrialOf ps s u →
    InTurn PatchLeadsShallowly xs s t → (v : LawfulMap) × IsTrialOf ps t v × IsSameBut ps s.map t.map × InTurn PatchLeadsShallowly xs u v

-- what leads on from the part leads on from the whole, to a whole of which that is the part
abbrev pub WholeFollows : Type 0
WholeFollows = (ps : List Path) (xs : List Patch) (s u v : LawfulMap) → AreBelowRoot ps → All (PatchNamesUnder ps) xs → IsTrialOf ps s u →
    InTurn PatchLeadsShallowly xs u v → (t : LawfulMap) × IsTrialOf ps t v × IsSameBut ps s.map t.map × InTurn PatchLeadsShallowly xs s t

-- patches stop at one on the whole exactly where they stop at it on the part
abbrev pub PartStopsAlike : Type 0
PartStopsAlike = (ps : List Path) (xs : List Placed) (x : Placed) (s u : LawfulMap) → AreBelowRoot ps → All (PatchNamesUnder ps) (patches xs) → IsTrialOf ps s u →
    FitStops IsStopped s xs x ↔ FitStops IsStopped u xs x

-- and go past a limit on the whole exactly where they do on the part
abbrev pub PartRunsPastLimitsAlike : Type 0
PartRunsPastLimitsAlike = (ps : List Path) (xs : List Placed) (s u : LawfulMap) → AreBelowRoot ps → All (PatchNamesUnder ps) (patches xs) → IsTrialOf ps s u →
    RunsPastLimits s xs ↔ RunsPastLimits u xs

-- a part that is put into the repository's tree leaves the tree of the repository with the patches
abbrev pub PutMakesTree : Type 0
PutMakesTree = (repo new : List Patch) (ps : List Path) (tree part after : Tree) → MakesPart repo new ps (map.get part) → IsTreeOf repo tree →
    Puts ps (map.get tree) (map.get part) (map.get after) → IsTreeOf (repo ++ new) after

-- patches that lead shallowly on from a tree that isn't too deep are undone by what undoes them
abbrev pub UndoingLeadsBack : Type 0
UndoingLeadsBack = (xs : List Patch) (s t : LawfulMap) → (Deep s.map → ⊥) → InTurn PatchLeadsShallowly xs s t → InTurn PatchLeadsShallowly (undo_all xs) t s
