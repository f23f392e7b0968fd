-- Trees as maps from paths to entries (Darcs.Patch.Prim.V1 and ApplyPatchesTree; that a removed file is empty is this profile's own).
use Rattle.std.specs.Prelude.{◌≡◌, ◌≢◌, ℕ, ◌<◌, List, [], ◌∷◌, ◌++◌, length, Option, Some, None}
use Rattle.std.specs.declared.cmp.Ordering.{Ordering}
use Rattle.std.specs.Ordering.{nat_cmp}
use Rattle.std.specs.Cmp.Lexicographic.{slice_cmp}
use Rattle.std.specs.FinMap.{FinMap, code}
use Rattle.std.specs.Coded.{Coded, code_by, coded_option, coded_list, coded_ℕ}
use Rattle.std.proofs.Common.{refl}
use Rattle.dm_tree.specs.Limits.{most_names}
use Rattle.dm_tree.specs.Paths.{Name, Path}

-- the lines of a file: the pieces between its newlines
abbrev pub Lines : Type 0
Lines = List (List ℕ)

-- what stands at a path
pub data Entry : Type 0 where
  Dir : Entry
  File : Lines → Entry

-- the empty file has one empty line
abbrev pub empty_file : Entry
empty_file = File ([] ∷ [])

-- what a tree has at each path
abbrev pub Map : Type 0
Map = Path → Option Entry

-- the parent of p is a directory of t
abbrev pub HasParent : Path → Map → Type 0
HasParent p t = (q : Path) × (n : Name) × (p ≡ q ++ n ∷ []) × (t q ≡ Some Dir)

-- the root is a directory, what holds something is a directory, and a file has a line
pub record IsLawful (t : Map) : Type 0 where
  pub root : t [] ≡ Some Dir
  pub parents : (p : Path) (n : Name) → t (p ++ n ∷ []) ≢ None → t p ≡ Some Dir
  pub lines : (p : Path) (ls : Lines) → t p ≡ Some (File ls) → ls ≢ []

-- a path of too many names is there
abbrev pub Deep : Map → Type 0
Deep t = (q : Path) × (most_names < length q) × (t q ≢ None)

-- names are in the order of their bytes
abbrev pub name_cmp : Name → Name → Ordering
name_cmp = slice_cmp nat_cmp

-- paths are in the order of their names, so a directory comes right before what is inside it
abbrev pub path_cmp : Path → Path → Ordering
path_cmp = slice_cmp name_cmp

-- a tree is a finite map from paths to entries
abbrev pub Tree : Type 0
Tree = FinMap path_cmp Entry

-- an entry is coded as its lines, if it has any
abbrev pub to_lines : Entry → Option Lines
to_lines Dir = None
to_lines (File ls) = Some ls

-- the entry that is coded so
abbrev pub from_lines : Option Lines → Entry
from_lines None = Dir
from_lines (Some ls) = File ls

-- the code of an entry gives the entry back
abbrev pub there_and_back : (e : Entry) → from_lines (to_lines e) ≡ e
there_and_back Dir = refl
there_and_back (File ls) = refl

-- a code for entries
abbrev pub entry_code : Coded Entry
entry_code = code_by (Option Lines) (coded_option (coded_list (coded_list coded_ℕ))) to_lines from_lines there_and_back

-- a code for trees
abbrev pub tree_code : Coded Tree
tree_code = code (coded_list (coded_list coded_ℕ)) entry_code
