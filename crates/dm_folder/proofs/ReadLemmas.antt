-- Why a folder isn't read, by the step that fails.
use Rattle.std.proofs.Common.{◌≡◌, ℕ, Bool, List, [], length, inl, inr, sym, subst}
use Rattle.std.proofs.lemmas.List.{nil_from_length}
use Rattle.dm_tree.specs.Paths.{Path}
use Rattle.dm_tree.specs.Trees.{Tree}
use Rattle.dm_folder.specs.Builds.{IsBuilt}
use Rattle.dm_folder.specs.Found.{Told}
use Rattle.dm_folder.specs.Faults.{IsBuildFault, IsListFault, Starved, Unlisted}
use Rattle.dm_folder.specs.Reads.{HasFault, Reads}
use Rattle.dm_folder.specs.Walks.{IsWalk, refused_in, rows_in}
use Rattle.dm_folder.specs.declared.fault.FolderFault.{FolderFault}
use Rattle.dm_folder.specs.declared.fault.FolderFault.TheVariants.{Misplaced, NoMemory, Refused, Unread}
use Rattle.dm_folder.specs.declared.fault.Refused.{Refused as Refusal}
use Rattle.dm_folder.specs.declared.fault.Trouble.{Trouble}
use Rattle.dm_folder.specs.declared.row.Row.{Row}
use Rattle.dm_folder.specs.declared.walking.Special.{Special}
use Rattle.dm_folder.proofs.KeepLemmas.{walk_kept}

-- a directory that can't be listed
pub list_fault : (lists : List ℕ → List Told → Type 0) (holds : List ℕ → List ℕ → Type 0) (fails : List ℕ → Trouble → Type 0) (s : Special) (top : List ℕ) (fault : FolderFault) → IsListFault lists fails s top fault → HasFault lists holds fails s top fault
list_fault lists holds fails s top (Refused list) (Unlisted path next trouble) = absurd trouble
list_fault lists holds fails s top (Refused list) (Starved e) = cc
list_fault lists holds fails s top (Unread place trouble) h = inl h
list_fault lists holds fails s top (Misplaced place) (Unlisted path next trouble) = absurd trouble
list_fault lists holds fails s top (Misplaced place) (Starved e) = cc
list_fault lists holds fails s top NoMemory h = tt

-- the walk is told still, and the tree is built
pub reads_kept : (lists more : List ℕ → List Told → Type 0) (holds : List ℕ → List ℕ → Type 0) → ((place : List ℕ) (found : List Told) → lists place found → more place found) → (s : Special) (top : List ℕ) (rows : List (Path × Bool)) → IsWalk lists s top rows rows [] → (t : Tree) → IsBuilt holds top rows t → Reads more holds s top t
reads_kept lists more holds stay s top rows w t b = record { rows = rows; is_walk = walk_kept lists more stay s top rows rows [] w; is_built = b }

-- a row that can't be built
pub build_fault : (lists more : List ℕ → List Told → Type 0) (holds : List ℕ → List ℕ → Type 0) (fails : List ℕ → Trouble → Type 0) → ((place : List ℕ) (found : List Told) → lists place found → more place found) → (s : Special) (top : List ℕ) (rows : List (Path × Bool)) → IsWalk lists s top rows rows [] → (fault : FolderFault) → IsBuildFault holds fails top rows fault → HasFault more holds fails s top fault
build_fault lists more holds fails stay s top rows w (Refused list) b = absurd b.row_fault
build_fault lists more holds fails stay s top rows w (Unread place trouble) b = inr (record { rows = rows; is_walk = walk_kept lists more stay s top rows rows [] w; is_fault = b })
build_fault lists more holds fails stay s top rows w (Misplaced place) b = record { rows = rows; is_walk = walk_kept lists more stay s top rows rows [] w; is_fault = b }
build_fault lists more holds fails stay s top rows w NoMemory b = tt

-- a walk that refused nothing
pub none_refused : (lists : List ℕ → List Told → Type 0) (s : Special) (top : List ℕ) (rows now : List Row) (refused : List Refusal) → now ≡ rows → length refused ≡ 0 → IsWalk lists s top (rows_in rows) (rows_in rows) (refused_in refused) → IsWalk lists s top (rows_in now) (rows_in now) []
none_refused lists s top rows now refused same none w =
    let P : List Refusal → Type 0 = λ list. IsWalk lists s top (rows_in rows) (rows_in rows) (refused_in list) in
    let Q : List Row → Type 0 = λ rs. IsWalk lists s top (rows_in rs) (rows_in rs) [] in
    subst Q (sym same) (subst P (nil_from_length refused none) w)
