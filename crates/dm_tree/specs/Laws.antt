-- What holds of the answers to all names, lines and changes: there is at most one.
use Rattle.std.specs.Prelude.{◌≡◌, ℕ, List, Option, Some, None, Result, Ok, Err}
use Rattle.dm_tree.specs.declared.fault.PathFault.{PathFault}
use Rattle.dm_tree.specs.declared.fault.LineFault.{LineFault}
use Rattle.dm_tree.specs.declared.fault.TreeFault.{TreeFault}
use Rattle.dm_tree.specs.declared.fault.TreeFault.TheVariants.{NoMemory}
use Rattle.dm_tree.specs.Paths.{Name, Path}
use Rattle.dm_tree.specs.Trees.{Lines, Map}
use Rattle.dm_tree.specs.Validity.{path_fault, path_fault_of, AnswersPath, line_fault, line_fault_of, AnswersLine}
use Rattle.dm_tree.specs.Changes.{AddAnswers, RemoveFileAnswers, RemoveDirAnswers, RenameAnswers, EditAnswers}

-- the fault that an answer to names reports; out of memory is none, as it comes only where there is none
abbrev pub fault_of_names : Result Path PathFault → Option PathFault
fault_of_names (Ok x) = None
fault_of_names (Err e) = path_fault_of e

-- the fault that an answer to a line reports; out of memory is none
abbrev pub fault_of_line : Result (Unit {0}) LineFault → Option LineFault
fault_of_line (Ok x) = None
fault_of_line (Err e) = line_fault_of e

-- the fault that an answer to a change reports; out of memory is none
abbrev pub fault_of_change : Result (Unit {0}) TreeFault → Option TreeFault
fault_of_change (Ok x) = None
fault_of_change (Err NoMemory) = None
fault_of_change (Err e) = Some e

-- two answers to the same names report the same fault, or both none
abbrev pub NamesHaveOneFault : Type 0
NamesHaveOneFault = (ns : List Name) (r s : Result Path PathFault) → AnswersPath r (path_fault ns) → AnswersPath s (path_fault ns) → fault_of_names r ≡ fault_of_names s

-- so do two answers to the same line
abbrev pub LineHasOneFault : Type 0
LineHasOneFault = (l : List ℕ) (r s : Result (Unit {0}) LineFault) → AnswersLine r (line_fault l) → AnswersLine s (line_fault l) → fault_of_line r ≡ fault_of_line s

-- so do two answers to adding an entry at the same path of the same map
abbrev pub AddingHasOneAnswer : Type 0
AddingHasOneAnswer = (m : Map) (p : Path) (r s : Result (Unit {0}) TreeFault) → AddAnswers m p r → AddAnswers m p s → fault_of_change r ≡ fault_of_change s

-- to removing the same file
abbrev pub RemovingAFileHasOneAnswer : Type 0
RemovingAFileHasOneAnswer = (m : Map) (p : Path) (r s : Result (Unit {0}) TreeFault) → RemoveFileAnswers m p r → RemoveFileAnswers m p s → fault_of_change r ≡ fault_of_change s

-- to removing the same directory
abbrev pub RemovingADirectoryHasOneAnswer : Type 0
RemovingADirectoryHasOneAnswer = (m : Map) (p : Path) (r s : Result (Unit {0}) TreeFault) → RemoveDirAnswers m p r → RemoveDirAnswers m p s → fault_of_change r ≡ fault_of_change s

-- to the same move
abbrev pub RenamingHasOneAnswer : Type 0
RenamingHasOneAnswer = (m : Map) (a b : Path) (r s : Result (Unit {0}) TreeFault) → RenameAnswers m a b r → RenameAnswers m a b s → fault_of_change r ≡ fault_of_change s

-- and to the same edit of the same file
abbrev pub EditingHasOneAnswer : Type 0
EditingHasOneAnswer = (m : Map) (p : Path) (n : ℕ) (old new : Lines) (r s : Result (Unit {0}) TreeFault) → EditAnswers m p n old new r → EditAnswers m p n old new s → fault_of_change r ≡ fault_of_change s
