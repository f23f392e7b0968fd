-- What a repository is (a patch's name and its explicit dependencies: Darcs.Patch.Named).
use Rattle.std.specs.Prelude.{◌≡◌, ℕ, List, [], ◌∷◌, ◌++◌}
use Rattle.std.specs.List.{Contains}
use Rattle.std.specs.FinMap as map
use Rattle.dm_info.specs.PatchInfo.{PatchInfo}
use Rattle.dm_tree.specs.Trees as trees
use Rattle.dm_prim.specs.Primitives.{LawfulMap}
use Rattle.dm_named.specs.Patches.{Patch}
use Rattle.dm_bundle.specs.Patches.{infos_of, Distinct}
use Rattle.dm_repo.specs.Folds.{ShallowFold}

-- a repository as its callers see it
pub record Repository : Type 0 where
  -- oldest first
  pub patches : List Patch
  -- how many more can be appended before memory is needed
  pub room : ℕ

-- what is about to be appended to a repository
pub record Prepared : Type 0 where
  -- oldest first
  pub patches : List Patch
  -- the repository's tree after them
  pub tree : trees.Tree

-- a patch of this name is held; its name is its patch info
abbrev pub Holds : List Patch → PatchInfo → Type 0
Holds repo i = Contains (infos_of repo) i

-- each explicit dependency is known, or the name of a patch that stands earlier
abbrev pub NamesEarlier : List PatchInfo → List Patch → Type 0
NamesEarlier known [] = Unit {0}
NamesEarlier known (x ∷ xs) = ((d : PatchInfo) → Contains x.deps d → Contains known d) × NamesEarlier (known ++ x.info ∷ []) xs

-- names are distinct, each explicit dependency stands earlier, and the patches apply from the root alone without a path that is too deep
pub record IsRepo (repo : List Patch) : Type 0 where
  pub distinct : Distinct (infos_of repo)
  pub earlier : NamesEarlier [] repo
  pub tree : LawfulMap
  pub folds : ShallowFold repo tree

-- what a tree has at each path is this lawful map
abbrev pub IsMapOf : trees.Tree → LawfulMap → Type 0
IsMapOf tree t = t.map ≡ map.get tree

-- the patches make the tree
abbrev pub IsTreeOf : List Patch → trees.Tree → Type 0
IsTreeOf repo tree = (t : LawfulMap) × IsMapOf tree t × ShallowFold repo t

-- the patches are a repository, and the tree that is kept is the one that they make
pub record KeepsTree (repo : List Patch) (tree : trees.Tree) : Type 0 where
  pub valid : IsRepo repo
  pub makes : IsTreeOf repo tree
