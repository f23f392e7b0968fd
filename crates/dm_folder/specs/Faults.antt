-- Why a folder isn't read as a tree.
use Rattle.std.specs.Prelude.{◌≡◌, ◌≢◌, ◌⊎◌, ℕ, Bool, true, List, [], ◌∷◌, ◌++◌, None}
use Rattle.std.specs.FinMap as finite
use Rattle.dm_tree.specs.Paths.{Path}
use Rattle.dm_tree.specs.Trees.{Tree, HasParent}
use Rattle.dm_tree.specs.declared.fault.TreeFault.{TreeFault}
use Rattle.dm_tree.specs.declared.fault.TreeFault.TheVariants as tree
use Rattle.dm_checkout.specs.Places.{place_text}
use Rattle.dm_folder.specs.Found.{Told}
use Rattle.dm_folder.specs.Walks.{IsWalk}
use Rattle.dm_folder.specs.Builds.{IsBuilt}
use Rattle.dm_folder.specs.declared.fault.Trouble.{Trouble}
use Rattle.dm_folder.specs.declared.fault.Why.{Why}
use Rattle.dm_folder.specs.declared.fault.FolderFault.{FolderFault}
use Rattle.dm_folder.specs.declared.fault.FolderFault.TheVariants.{Refused, Unread, Misplaced, NoMemory}
use Rattle.dm_folder.specs.declared.walking.Special.{Special}

-- that this place can't be read was told, or memory ran out
abbrev pub IsTrouble : (List ℕ → Trouble → Type 0) → List ℕ → FolderFault → Type 0
IsTrouble fails place (Refused list) = ⊥
IsTrouble fails place (Unread at trouble) = (at.bytes.items ≡ place) × fails place trouble
IsTrouble fails place (Misplaced at) = ⊥
IsTrouble fails place NoMemory = Unit {0}

-- the directory of this path is to be listed next: the folder itself, or the next directory of what was listed
pub data IsNext (lists : List ℕ → List Told → Type 0) (s : Special) (top : List ℕ) (path : Path) : Type 0 where
  First : path ≡ [] → IsNext lists s top path
  Then : (walked after : List (Path × Bool)) (refused : List (List ℕ × Why)) → IsWalk lists s top walked (walked ++ (path, true) ∷ after) refused → IsNext lists s top path

-- the next directory can't be listed, or memory ran out
pub data IsListFault (lists : List ℕ → List Told → Type 0) (fails : List ℕ → Trouble → Type 0) (s : Special) (top : List ℕ) (fault : FolderFault) : Type 0 where
  Unlisted : (path : Path) → IsNext lists s top path → IsTrouble fails (place_text top path) fault → IsListFault lists fails s top fault
  Starved : fault ≡ NoMemory → IsListFault lists fails s top fault

-- the tree takes nothing new at the path
abbrev pub IsTaken : Tree → Path → Type 0
IsTaken t path = (HasParent path (finite.get t) → ⊥) ⊎ (finite.get t path ≢ None)

-- the fault of a row on top of this tree
abbrev pub IsRowFault : (List ℕ → Trouble → Type 0) → List ℕ → Tree → Path → FolderFault → Type 0
IsRowFault fails top t path (Refused list) = ⊥
IsRowFault fails top t path (Unread place trouble) = (place.bytes.items ≡ place_text top path) × fails (place_text top path) trouble
IsRowFault fails top t path (Misplaced place) = (place.bytes.items ≡ place_text top path) × IsTaken t path
IsRowFault fails top t path NoMemory = Unit {0}

-- the rows up to one are built, and that one has the fault
pub record IsBuildFault (holds : List ℕ → List ℕ → Type 0) (fails : List ℕ → Trouble → Type 0) (top : List ℕ) (rows : List (Path × Bool)) (fault : FolderFault) : Type 0 where
  pub before : List (Path × Bool)
  pub path : Path
  pub dir : Bool
  pub after : List (Path × Bool)
  pub rows_are : rows ≡ before ++ (path, dir) ∷ after
  pub so_far : Tree
  pub is_built : IsBuilt holds top before so_far
  pub row_fault : IsRowFault fails top so_far path fault

-- what the fault of adding at a place becomes
abbrev pub IsTreeFault : TreeFault → List ℕ → FolderFault → Type 0
IsTreeFault tree.NoMemory place fault = fault ≡ NoMemory
IsTreeFault other place (Misplaced at) = at.bytes.items ≡ place
IsTreeFault other place fault = ⊥
