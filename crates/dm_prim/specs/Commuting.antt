-- When primitives, and lists of them, commute.
use Rattle.std.specs.Prelude.{◌≡◌, ◌≢◌, ℕ, ◌+◌, ◌<◌, ◌^◌, ◌&&◌, ◌||◌, ◌==◌, nat_le, Bool, false, List, [], length}
use Rattle.std.specs.List.{list_any}
use Rattle.dm_tree.specs.Validity.{IsValidPath, IsPlain, ArePlain}
use Rattle.dm_tokens.specs.Validity.{AreTokens}
use Rattle.dm_prim.specs.Rectangles.{Rectangle}
use Rattle.dm_prim.specs.Primitives.{Work, AddFile, RmFile, AddDir, RmDir, Hunk, Binary, Replace, Prim, At, Move, ChangePref}
use Rattle.dm_prim.specs.Table.{TableRow}

-- the lines of a file are counted from 1 to 4,294,967,295
abbrev pub IsLineNumber : ℕ → Type 0
IsLineNumber l = (0 < l) × (l < 2 ^ 32)

-- the bytes 9 to 13 and 32
abbrev pub is_space : ℕ → Bool
is_space b = nat_le 9 b && nat_le b 13 || b == 32

-- the name of a preference is a word, and its values are lines
abbrev pub IsPreference : List ℕ → List ℕ → List ℕ → Type 0
IsPreference name old new = (name ≢ []) × (list_any is_space name ≡ false) × IsPlain old × IsPlain new

-- a hunk has a line in range, an old or a new line, and no newline in any of them; a file has at least one line; tokens are of a set without
-- the newline
abbrev pub IsValidWork : Work → Type 0
IsValidWork AddFile = Unit {0}
IsValidWork RmFile = Unit {0}
IsValidWork AddDir = Unit {0}
IsValidWork RmDir = Unit {0}
IsValidWork (Hunk l old new) = IsLineNumber l × (0 < length old + length new) × ArePlain old × ArePlain new
IsValidWork (Binary old new) = (old ≢ []) × (new ≢ []) × ArePlain old × ArePlain new
IsValidWork (Replace set old new) = AreTokens (record { set = set; old = old; new = new })

-- a primitive that may be: its paths and its work are valid
abbrev pub IsValidPrim : Prim → Type 0
IsValidPrim (At p w) = IsValidPath p × IsValidWork w
IsValidPrim (Move a b) = IsValidPath a × IsValidPath b
IsValidPrim (ChangePref name old new) = IsPreference name old new

-- p then q commute to q' then p': the table relates them, and all four are valid, so that no line and no path of a result is past its limit
pub record Commutes (p q q' p' : Prim) : Type 0 where
  pub valid_p : IsValidPrim p
  pub valid_q : IsValidPrim q
  pub valid_q' : IsValidPrim q'
  pub valid_p' : IsValidPrim p'
  pub row : TableRow p q q' p'

-- the lists xs then ys commute to ys' then xs': a rectangle of pairs that do
abbrev pub ListsCommute : List Prim → List Prim → List Prim → List Prim → Type 0
ListsCommute xs ys ys' xs' = Rectangle Commutes xs ys ys' xs'
