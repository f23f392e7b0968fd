-- The facts that a tree with identities is the sum of, and what a primitive does to them.
use Rattle.std.specs.Prelude.{◌≡◌, List, [], ◌∷◌, ◌++◌, map, Some}
use Rattle.std.specs.List.{Contains}
use Rattle.dm_tree.specs.Paths.{Name, Path}
use Rattle.dm_chain.specs.Chains.{Token}
use Rattle.dm_chain.specs.Sums.{Change}
use Rattle.dm_facts.specs.Heaps.{HeapEntry, Heap}
use Rattle.dm_facts.specs.Nodes.{Node, Folder, FileWith, NodeMap, IsNameIn}

-- what can be true of a tree with identities
pub data Fact (I : Type 0) : Type 0 where
  -- a directory stands in a directory under a name
  FolderIn : I → I → Name → Fact I
  -- a file stands in a directory under a name
  FileIn : I → I → Name → Fact I
  -- a gap or a line is one of a file
  TokenOf : I → Token I → Fact I
  -- a replace is in the heap of a file
  Turned : I → HeapEntry → Fact I

-- that a node stands in the directory d under the name n
abbrev pub stands : {I : Type 0} → Node I → I → Name → Fact I
stands (Folder x) d n = FolderIn x d n
stands (FileWith x h c) d n = FileIn x d n

-- all facts of such a node: that it stands there, and each gap and line and each replace of a file
abbrev pub facts_of : {I : Type 0} → Node I → I → Name → List (Fact I)
facts_of (Folder x) d n = FolderIn x d n ∷ []
facts_of (FileWith x h c) d n = FileIn x d n ∷ (map (TokenOf x) c ++ map (Turned x) h)

-- the fact is one of s
abbrev pub IsFactOf : {I : Type 0} → Fact I → NodeMap I → Type 0
IsFactOf (FolderIn x d n) s = (p : Path) × (s p ≡ Some (Folder x)) × IsNameIn p d n s
IsFactOf {I} (FileIn x d n) s = (p : Path) × (h : Heap) × (c : List (Token I)) × (s p ≡ Some (FileWith x h c)) × IsNameIn p d n s
IsFactOf {I} (TokenOf x t) s = (p : Path) × (h : Heap) × (c : List (Token I)) × (s p ≡ Some (FileWith x h c)) × Contains c t
IsFactOf {I} (Turned x r) s = (p : Path) × (h : Heap) × (c : List (Token I)) × (s p ≡ Some (FileWith x h c)) × Contains h r

-- what a primitive does to the facts: those that it takes away, and those that it adds
abbrev pub Effect : Type 0 → Type 0
Effect I = Change (Fact I)

-- what undoes it
abbrev pub inverse : {I : Type 0} → Effect I → Effect I
inverse e = record { taken = e.added; added = e.taken }
