-- Primitive patches, their inverses, and what each does to a tree (Darcs.Patch.Prim.V1; this profile's own: `rmfile` wants an empty file, `rmdir` an empty directory, and a hunk, a binary or a replace leaves at least one line).
use Rattle.std.specs.Prelude.{◌≡◌, ◌≢◌, ℕ, List, [], ◌∷◌, ◌++◌, Option, Some, None}
use Rattle.dm_tree.specs.Paths.{Name, Path}
use Rattle.dm_tree.specs.Trees.{Lines, Entry, Dir, File, Map, HasParent, IsLawful, empty_file}
use Rattle.dm_tree.specs.Changes.{MayMove, Renamed, ReplacesLines}
use Rattle.dm_tokens.specs.Turning.{TurnAll}
use Rattle.dm_tokens.specs.Validity.{AreOfSet}
use Rattle.dm_prim.specs.InTurn.{InTurn}

-- what is done at one path; a hunk has a line, counted from 1, and the old lines that new lines replace there; a binary has all lines of the file, before and after;
-- a replace has the text of a set, and the token that becomes another one
pub data Work : Type 0 where
  AddFile : Work
  RmFile : Work
  AddDir : Work
  RmDir : Work
  Hunk : ℕ → Lines → Lines → Work
  Binary : Lines → Lines → Work
  Replace : List ℕ → List ℕ → List ℕ → Work

-- a primitive is work at a path, a move of all that is at or under a path to another, or another value for the preference of this name
pub data Prim : Type 0 where
  At : Path → Work → Prim
  Move : Path → Path → Prim
  ChangePref : List ℕ → List ℕ → List ℕ → Prim

-- adding and removing undo each other, and a hunk, a binary and a replace are undone with old and new exchanged
abbrev pub inv_work : Work → Work
inv_work AddFile = RmFile
inv_work RmFile = AddFile
inv_work AddDir = RmDir
inv_work RmDir = AddDir
inv_work (Hunk l old new) = Hunk l new old
inv_work (Binary old new) = Binary new old
inv_work (Replace set old new) = Replace set new old

-- the inverse of a primitive; a move is undone by the move back, another value by the old one
abbrev pub inv : Prim → Prim
inv (At p w) = At p (inv_work w)
inv (Move a b) = Move b a
inv (ChangePref name old new) = ChangePref name new old

-- the inverse of a list: the inverses, in reversed order
abbrev pub inv_all : List Prim → List Prim
inv_all [] = []
inv_all (p ∷ ps) = inv_all ps ++ inv p ∷ []

-- each line turns, by the set that the text means, of which both are tokens; and a line is left
pub record TurnsLines (set_text old new : List ℕ) (ls ls' : Lines) : Type 0 where
  pub tokens : AreOfSet set_text old new
  pub turned : TurnAll tokens.set old new ls ls'
  pub left : ls' ≢ []

-- what work finds at its path, and what it leaves there
abbrev pub Changes : Work → Option Entry → Option Entry → Type 0
Changes AddFile e e' = (e ≡ None) × (e' ≡ Some empty_file)
Changes RmFile e e' = (e ≡ Some empty_file) × (e' ≡ None)
Changes AddDir e e' = (e ≡ None) × (e' ≡ Some Dir)
Changes RmDir e e' = (e ≡ Some Dir) × (e' ≡ None)
Changes (Hunk l old new) e e' = (ls : Lines) × (ls' : Lines) × (e ≡ Some (File ls)) × (e' ≡ Some (File ls')) × ReplacesLines l old new ls ls'
Changes (Binary old new) e e' = (e ≡ Some (File old)) × (e' ≡ Some (File new)) × (new ≢ [])
Changes (Replace set old new) e e' = (ls : Lines) × (ls' : Lines) × (e ≡ Some (File ls)) × (e' ≡ Some (File ls')) × TurnsLines set old new ls ls'

-- what work asks of the tree around its path: a directory that holds what is added, nothing in a directory that is removed
abbrev pub Around : Work → Path → Map → Type 0
Around AddFile p t = HasParent p t
Around RmFile p t = Unit {0}
Around AddDir p t = HasParent p t
Around RmDir p t = (n : Name) (r : Path) → t (p ++ n ∷ r) ≡ None
Around (Hunk l old new) p t = Unit {0}
Around (Binary old new) p t = Unit {0}
Around (Replace set old new) p t = Unit {0}

-- work w at p makes t' of t
pub record WorksAt (p : Path) (w : Work) (t t' : Map) : Type 0 where
  pub around : Around w p t
  pub here : Changes w (t p) (t' p)
  pub elsewhere : (q : Path) → q ≢ p → t' q ≡ t q

-- `move a b` makes t' of t
abbrev pub AppliesMove : Path → Path → Map → Map → Type 0
AppliesMove a b t t' = MayMove t a b × Renamed a b t t'

-- p applies to t, and makes t' of it; preferences aren't in the tree
abbrev pub Applies : Prim → Map → Map → Type 0
Applies (At p w) t t' = WorksAt p w t t'
Applies (Move a b) t t' = AppliesMove a b t t'
Applies (ChangePref name old new) t t' = t' ≡ t

-- a lawful map
pub record LawfulMap : Type 0 where
  pub map : Map
  pub lawful : IsLawful map

-- p leads from one lawful map to another
pub record Leads (p : Prim) (s t : LawfulMap) : Type 0 where
  pub applies : Applies p s.map t.map

-- a list does, each on what the one before it made
abbrev pub LeadsAll : List Prim → LawfulMap → LawfulMap → Type 0
LeadsAll ps s t = InTurn Leads ps s t
