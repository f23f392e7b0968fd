-- Trees in which each directory and each file has an identity: paths change when something moves, lines change, and an identity stays.
use Rattle.std.specs.Prelude.{◌≡◌, ◌≢◌, List, [], ◌∷◌, ◌++◌, map, Option, Some, None, option_map}
use Rattle.dm_tree.specs.Paths.{Name, Path}
use Rattle.dm_tree.specs.Trees.{Lines, Entry, Dir, File, Map}
use Rattle.dm_chain.specs.Chains.{Token, IsChain, HasOnePortEach, lines_of}
use Rattle.dm_facts.specs.Heaps.{Heap, IsHeap, spelled}

-- a directory, or a file with its replaces and with the gaps and lines that it consists of, each with its identity; a line holds a symbol in place of its text
pub data Node (I : Type 0) : Type 0 where
  Folder : I → Node I
  FileWith : I → Heap → List (Token I) → Node I

-- what stands at each path of a tree with identities
abbrev pub NodeMap : Type 0 → Type 0
NodeMap I = Path → Option (Node I)

-- the texts of a file's lines: what its heap spells of their symbols
abbrev pub texts_of : {I : Type 0} → Heap → List (Token I) → Lines
texts_of h c = map (spelled h) (lines_of c)

-- the entry that a node is, with no identity
abbrev pub entry_of : {I : Type 0} → Node I → Entry
entry_of (Folder x) = Dir
entry_of (FileWith x h c) = File (texts_of h c)

-- the identity of a node
abbrev pub identity : {I : Type 0} → Node I → I
identity (Folder x) = x
identity (FileWith x h c) = x

-- the tree with no identity
abbrev pub plain : {I : Type 0} → NodeMap I → Map
plain s p = option_map entry_of (s p)

-- the node is a directory
abbrev pub IsFolder : {I : Type 0} → Node I → Type 0
IsFolder (Folder x) = Unit {0}
IsFolder (FileWith x h c) = ⊥

-- the gaps and lines of a file lead from its identity to its last port, and its replaces are a heap
abbrev pub IsFile : {I : Type 0} → I → Heap → List (Token I) → Type 0
IsFile {I} x h c = (last : I) × IsChain x c last × IsHeap h

-- the node is a file with one line, which is empty
abbrev pub IsEmptyFile : {I : Type 0} → Node I → Type 0
IsEmptyFile (Folder x) = ⊥
IsEmptyFile (FileWith x h c) = IsFile x h c × (texts_of h c ≡ [] ∷ [])

-- p is the name n in the directory d
pub record IsNameIn {I : Type 0} (p : Path) (d : I) (n : Name) (s : NodeMap I) : Type 0 where
  pub parent : Path
  pub is : p ≡ parent ++ n ∷ []
  pub folder : s parent ≡ Some (Folder d)

-- the root is a directory, and so is what holds something; a file is a chain with a heap, no two of its gaps and lines begin at one port; no two paths have one identity
pub record IsTree {I : Type 0} (s : NodeMap I) : Type 0 where
  pub root : (r : I) × (s [] ≡ Some (Folder r))
  pub parents : (p : Path) (n : Name) → s (p ++ n ∷ []) ≢ None → (d : I) × (s p ≡ Some (Folder d))
  pub files : (p : Path) (x : I) (h : Heap) (c : List (Token I)) → s p ≡ Some (FileWith x h c) → IsFile x h c × HasOnePortEach c
  pub unique : (p q : Path) (x y : Node I) → s p ≡ Some x → s q ≡ Some y → identity x ≡ identity y → p ≡ q
