-- When a folder is read as a tree, and why it is not.
use Rattle.std.specs.Prelude.{◌≢◌, ◌⊎◌, ℕ, Bool, List, []}
use Rattle.dm_tree.specs.Paths.{Path}
use Rattle.dm_tree.specs.Trees.{Tree}
use Rattle.dm_folder.specs.Found.{Told}
use Rattle.dm_folder.specs.Walks.{IsWalk, refused_in}
use Rattle.dm_folder.specs.Builds.{IsBuilt}
use Rattle.dm_folder.specs.Faults.{IsBuildFault, IsListFault}
use Rattle.dm_folder.specs.declared.fault.Trouble.{Trouble}
use Rattle.dm_folder.specs.declared.fault.FolderFault.{FolderFault}
use Rattle.dm_folder.specs.declared.fault.FolderFault.TheVariants.{Refused, Unread, Misplaced, NoMemory}
use Rattle.dm_folder.specs.declared.walking.Special.{Special}

-- every directory was listed, nothing is refused, and the tree is of all that the folder has
pub record Reads (lists : List ℕ → List Told → Type 0) (holds : List ℕ → List ℕ → Type 0) (s : Special) (top : List ℕ) (t : Tree) : Type 0 where
  pub rows : List (Path × Bool)
  pub is_walk : IsWalk lists s top rows rows []
  pub is_built : IsBuilt holds top rows t

-- every directory was listed, nothing is refused, and one of the rows has the fault
pub record IsFileFault (lists : List ℕ → List Told → Type 0) (holds : List ℕ → List ℕ → Type 0) (fails : List ℕ → Trouble → Type 0) (s : Special) (top : List ℕ) (fault : FolderFault) : Type 0 where
  pub rows : List (Path × Bool)
  pub is_walk : IsWalk lists s top rows rows []
  pub is_fault : IsBuildFault holds fails top rows fault

-- why a folder isn't read: all that is refused, a directory or a file that can't be read, a row that was told twice, or no memory
abbrev pub HasFault : (List ℕ → List Told → Type 0) → (List ℕ → List ℕ → Type 0) → (List ℕ → Trouble → Type 0) → Special → List ℕ → FolderFault → Type 0
HasFault lists holds fails s top (Refused list) = (rows : List (Path × Bool)) × IsWalk lists s top rows rows (refused_in list.items) × (refused_in list.items ≢ [])
HasFault lists holds fails s top (Unread place trouble) = IsListFault lists fails s top (Unread place trouble) ⊎ IsFileFault lists holds fails s top (Unread place trouble)
HasFault lists holds fails s top (Misplaced place) = IsFileFault lists holds fails s top (Misplaced place)
HasFault lists holds fails s top NoMemory = Unit {0}
