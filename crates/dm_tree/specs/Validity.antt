-- What may stand in a path and in a list of lines, and by which fault the rest is refused.
use Rattle.std.specs.Prelude.{◌≡◌, ℕ, List, [], ◌∷◌, length, codes, Bool, false, ◌||◌, cond, Option, Some, None, Result, Ok, Err, ◌==◌, nat_lt}
use Rattle.std.specs.List.{list_any, All}
use Rattle.std.specs.Ordering.{eq_by_cmp}
use Rattle.dm_tree.specs.declared.fault.PathFault.{PathFault}
use Rattle.dm_tree.specs.declared.fault.PathFault.TheVariants as path
use Rattle.dm_tree.specs.declared.fault.LineFault.{LineFault}
use Rattle.dm_tree.specs.declared.fault.LineFault.TheVariants as line
use Rattle.dm_tree.specs.Limits.{most_names, most_name_bytes}
use Rattle.dm_tree.specs.Paths.{Name, Path}
use Rattle.dm_tree.specs.Trees.{Lines, name_cmp}

-- both names have the same bytes
abbrev pub is_name : Name → Name → Bool
is_name = eq_by_cmp name_cmp

-- the name is empty, `.`, `..` or `_darcs`, or holds `/` or a zero byte
abbrev pub is_bad_name : Name → Bool
is_bad_name n =
    is_name n []
    || (is_name n (codes ".")
    || (is_name n (codes "..")
    || (is_name n (codes "_darcs")
    || (list_any (λ y. y == 47) n
    || list_any (λ y. y == 0) n))))

-- the first fault of the names, from left to right
abbrev pub names_fault : List Name → Option PathFault
names_fault [] = None
names_fault (n ∷ ns) = cond (is_bad_name n) (Some path.BadName) (cond (nat_lt most_name_bytes (length n)) (Some path.TooLong) (names_fault ns))

-- the first fault of the names as a path: none, too many, then name by name
abbrev pub path_fault : List Name → Option PathFault
path_fault ns = cond (length ns == 0) (Some path.Empty) (cond (nat_lt most_names (length ns)) (Some path.TooDeep) (names_fault ns))

-- the path has 1 to `most_names` names, each of which may stand in a path
abbrev pub IsValidPath : Path → Type 0
IsValidPath p = path_fault p ≡ None

-- the fault, but out of memory, which no names are to blame for
abbrev pub path_fault_of : PathFault → Option PathFault
path_fault_of path.NoMemory = None
path_fault_of e = Some e

-- an Ok, or out of memory, comes only where no fault holds; any other Err is the first fault
abbrev pub AnswersPath : {T : Type 0} → Result T PathFault → Option PathFault → Type 0
AnswersPath (Ok x) f = f ≡ None
AnswersPath (Err e) f = f ≡ path_fault_of e

-- the line holds a newline
abbrev pub has_newline : List ℕ → Bool
has_newline l = list_any (λ y. y == 10) l

-- the line has no newline
abbrev pub IsPlain : List ℕ → Type 0
IsPlain l = has_newline l ≡ false

-- no line has a newline
abbrev pub ArePlain : Lines → Type 0
ArePlain ls = All IsPlain ls

-- the fault of a line
abbrev pub line_fault : List ℕ → Option LineFault
line_fault l = cond (has_newline l) (Some line.Newline) None

-- the fault, but out of memory, which no line is to blame for
abbrev pub line_fault_of : LineFault → Option LineFault
line_fault_of line.NoMemory = None
line_fault_of e = Some e

-- an Ok, or out of memory, comes only where the line has no fault
abbrev pub AnswersLine : {T : Type 0} → Result T LineFault → Option LineFault → Type 0
AnswersLine (Ok x) f = f ≡ None
AnswersLine (Err e) f = f ≡ line_fault_of e
