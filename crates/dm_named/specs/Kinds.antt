-- The kinds of primitives that are read, and the primitives that can be written.
use Rattle.std.specs.Prelude.{List}
use Rattle.std.specs.List.{AllByRecursion}
use Rattle.hex.specs.Hex.{IsBytes}
use Rattle.dm_hex.specs.Contents.{content}
use Rattle.dm_prim.specs.Primitives.{Work, Prim, AddFile, RmFile, AddDir, RmDir, Hunk, Binary, Replace, At, Move, ChangePref}
use Rattle.dm_named.specs.declared.limits.Kinds.{Kinds}
use Rattle.dm_named.specs.declared.limits.Kinds.TheVariants as these

-- all work but a binary and a replace
abbrev pub IsWorkOfSix : Work → Type 0
IsWorkOfSix AddFile = Unit {0}
IsWorkOfSix RmFile = Unit {0}
IsWorkOfSix AddDir = Unit {0}
IsWorkOfSix RmDir = Unit {0}
IsWorkOfSix (Hunk l old new) = Unit {0}
IsWorkOfSix (Binary old new) = ⊥
IsWorkOfSix (Replace set old new) = ⊥

-- a primitive of the six kinds: neither a binary nor a replace nor a change of a preference
abbrev pub IsOfSix : Prim → Type 0
IsOfSix (At p w) = IsWorkOfSix w
IsOfSix (Move a b) = Unit {0}
IsOfSix (ChangePref name old new) = ⊥

-- a primitive of these kinds
abbrev pub IsOf : Kinds → Prim → Type 0
IsOf these.Six p = IsOfSix p
IsOf these.All p = Unit {0}

-- each is of these kinds
abbrev pub AreOf : Kinds → List Prim → Type 0
AreOf kinds ps = AllByRecursion (IsOf kinds) ps

-- the contents of work have bytes only
abbrev pub HasByteWork : Work → Type 0
HasByteWork AddFile = Unit {0}
HasByteWork RmFile = Unit {0}
HasByteWork AddDir = Unit {0}
HasByteWork RmDir = Unit {0}
HasByteWork (Hunk l old new) = Unit {0}
HasByteWork (Binary old new) = IsBytes (content old) × IsBytes (content new)
HasByteWork (Replace set old new) = Unit {0}

-- the contents of a primitive have bytes only, so that they can be written in hex
abbrev pub HasBytes : Prim → Type 0
HasBytes (At p w) = HasByteWork w
HasBytes (Move a b) = Unit {0}
HasBytes (ChangePref name old new) = Unit {0}

-- each has bytes only
abbrev pub HaveBytes : List Prim → Type 0
HaveBytes ps = AllByRecursion HasBytes ps

-- a primitive of these kinds that can be written
abbrev pub IsWritable : Kinds → Prim → Type 0
IsWritable these.Six p = IsOfSix p
IsWritable these.All p = HasBytes p

-- each is of these kinds and can be written
abbrev pub AreWritable : Kinds → List Prim → Type 0
AreWritable kinds ps = AllByRecursion (IsWritable kinds) ps
