-- The tree of what a folder has.
use Rattle.std.specs.Prelude.{◌≡◌, ℕ, Bool, true, false, List, [], ◌∷◌, map, None}
use Rattle.std.specs.FinMap as finite
use Rattle.dm_tree.specs.Paths.{Path}
use Rattle.dm_tree.specs.Trees.{Entry, Dir, File, Tree}
use Rattle.dm_hex.specs.Contents.{AreFileLines, content}
use Rattle.dm_checkout.specs.Places.{place_text}

-- whether the entry is a directory
abbrev pub is_dir : Entry → Bool
is_dir Dir = true
is_dir (File lines) = false

-- the bytes that were told of a file's place are its lines, with a newline between each two
abbrev pub IsHeld : (List ℕ → List ℕ → Type 0) → List ℕ → Path × Entry → Type 0
IsHeld holds top (path, Dir) = Unit {0}
IsHeld holds top (path, File lines) = AreFileLines lines × holds (place_text top path) (content lines)

-- that is so for each entry
abbrev pub AreHeld : (List ℕ → List ℕ → Type 0) → List ℕ → List (Path × Entry) → Type 0
AreHeld holds top [] = Unit {0}
AreHeld holds top (e ∷ es) = IsHeld holds top e × AreHeld holds top es

-- the tree with nothing but its root
abbrev pub bare : Tree
bare = finite.insert finite.empty [] Dir

-- the tree, with these entries put in one after another
abbrev pub insert_all : List (Path × Entry) → Tree → Tree
insert_all [] t = t
insert_all (e ∷ es) t = insert_all es (finite.insert t e.0 e.1)

-- none of them is put in the place of another
abbrev pub AreNew : List (Path × Entry) → Tree → Type 0
AreNew [] t = Unit {0}
AreNew (e ∷ es) t = (finite.get t e.0 ≡ None) × AreNew es (finite.insert t e.0 e.1)

-- the tree has an entry at the path of each row, and no other but the root: a directory, or a file of the bytes that were told
pub record IsBuilt (holds : List ℕ → List ℕ → Type 0) (top : List ℕ) (rows : List (Path × Bool)) (t : Tree) : Type 0 where
  pub built : List (Path × Entry)
  pub rows_are : map (λ e. (e.0, is_dir e.1)) built ≡ rows
  pub are_held : AreHeld holds top built
  pub are_new : AreNew built bare
  pub tree_is : t ≡ insert_all built bare
