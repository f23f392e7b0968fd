-- The primitives that make a tree of the root alone.
use Rattle.std.specs.Prelude.{Bool, false, ◌&&◌, ◌==◌, cond, List, [], ◌∷◌, ◌++◌, drop, length}
use Rattle.std.specs.List.{AllByRecursion}
use Rattle.std.specs.FinMap as map
use Rattle.dm_tree.specs.Paths.{Path}
use Rattle.dm_tree.specs.Trees.{Lines, Entry, Dir, File, Tree}
use Rattle.dm_tree.specs.Validity.{ArePlain}
use Rattle.dm_prim.specs.Primitives.{Prim, At, AddDir, AddFile, Hunk}

-- every entry but the root with its path, in the order of paths, so that a directory comes before what is in it
abbrev pub rows : Tree → List (Path × Entry)
rows t = drop 1 (map.entries t)

-- the file is empty: it has one line, without a byte
abbrev pub is_blank : Lines → Bool
is_blank [] = false
is_blank (l ∷ ls) = (length l == 0) && (length ls == 0)

-- one hunk: all lines of the file take the place of the one that an empty file has; none for a file that stays empty
abbrev pub filling : Path → Lines → List Prim
filling p ls = cond (is_blank ls) [] (At p (Hunk 1 ([] ∷ []) ls) ∷ [])

-- a directory is added; a file is added, and filled right after that
abbrev pub making : Path → Entry → List Prim
making p Dir = At p AddDir ∷ []
making p (File ls) = At p AddFile ∷ filling p ls

-- the same of rows in turn
abbrev pub making_all : List (Path × Entry) → List Prim
making_all [] = []
making_all (r ∷ rs) = making r.0 r.1 ++ making_all rs

-- the primitives that make the tree
abbrev pub tree_prims : Tree → List Prim
tree_prims t = making_all (rows t)

-- no line of the file has a newline
abbrev pub IsPlainEntry : Entry → Type 0
IsPlainEntry Dir = Unit {0}
IsPlainEntry (File ls) = ArePlain ls

-- no line of these has a newline
abbrev pub ArePlainRows : List (Path × Entry) → Type 0
ArePlainRows rs = AllByRecursion (λ r. IsPlainEntry r.1) rs

-- no line of any file has a newline
abbrev pub HasPlainFiles : Tree → Type 0
HasPlainFiles t = ArePlainRows (rows t)
