-- Which primitive a value of the code is, and what commuting such values returns.
use Rattle.std.specs.Prelude.{List, [], Vec, map, Option, Some, None}
use Rattle.dm_tree.specs.Paths.{Path}
use Rattle.dm_prim.specs.Primitives as primitives
use Rattle.dm_prim.specs.Rectangles.{CellRow}
use Rattle.dm_prim.specs.Commuting.{Commutes, ListsCommute}
use Rattle.dm_prim.specs.Laws.{PairLaws, ListLaws}
use Rattle.dm_prim.specs.Hunks.{hunk_of}
use Rattle.dm_prim.specs.Binaries.{binary_of}
use Rattle.dm_prim.specs.Preferences.{preference_of}
use Rattle.dm_prim.specs.Replaces.{replace_of}
use Rattle.dm_prim.specs.declared.primitive.Primitive.{Primitive}
use Rattle.dm_prim.specs.declared.primitive.Primitive.TheVariants.{AddFile, RmFile, AddDir, RmDir, Move, Hunk, Binary, Replace, ChangePref}

-- the primitive that a value is
abbrev pub prim_of : {Z : Type 0} → Primitive Z → primitives.Prim
prim_of (AddFile p) = primitives.At p primitives.AddFile
prim_of (RmFile p) = primitives.At p primitives.RmFile
prim_of (AddDir p) = primitives.At p primitives.AddDir
prim_of (RmDir p) = primitives.At p primitives.RmDir
prim_of (Move a b) = primitives.Move a b
prim_of (Hunk h) = hunk_of h
prim_of (Binary b) = binary_of b
prim_of (Replace r) = replace_of r
prim_of (ChangePref c) = preference_of c

abbrev pub prims_of : {Z : Type 0} → List (Primitive Z) → List primitives.Prim
prims_of ps = map prim_of ps

-- the path that it works at, or that it moves; a change of a preference has none
abbrev pub path_of : primitives.Prim → Path
path_of (primitives.At f w) = f
path_of (primitives.Move a b) = a
path_of (primitives.ChangePref name old new) = []

-- the work that it does, where it does some
abbrev pub work_of : primitives.Prim → primitives.Work
work_of (primitives.At f w) = w
work_of (primitives.Move a b) = primitives.AddFile
work_of (primitives.ChangePref name old new) = primitives.AddFile

-- it is work at a path
abbrev pub IsWork : primitives.Prim → Type 0
IsWork (primitives.At f w) = Unit {0}
IsWork (primitives.Move a b) = ⊥
IsWork (primitives.ChangePref name old new) = ⊥

-- it names a path
abbrev pub NamesAPath : primitives.Prim → Type 0
NamesAPath (primitives.At f w) = Unit {0}
NamesAPath (primitives.Move a b) = Unit {0}
NamesAPath (primitives.ChangePref name old new) = ⊥

-- it is no move
abbrev pub MovesNothing : primitives.Prim → Type 0
MovesNothing (primitives.At f w) = Unit {0}
MovesNothing (primitives.Move a b) = ⊥
MovesNothing (primitives.ChangePref name old new) = Unit {0}

-- p then q commute to the pair that is returned; where none is, they commute to nothing
abbrev pub CommutesTo : {Z : Type 0} → primitives.Prim → primitives.Prim → Option (Primitive Z × Primitive Z) → Type 0
CommutesTo p q None = (q' p' : primitives.Prim) → Commutes p q q' p' → ⊥
CommutesTo p q (Some r) = Commutes p q (prim_of r.0) (prim_of r.1)

-- the three laws hold of the pair that is returned
abbrev pub PairLawsHold : {Z : Type 0} → primitives.Prim → primitives.Prim → Option (Primitive Z × Primitive Z) → Type 0
PairLawsHold p q None = Unit {0}
PairLawsHold p q (Some r) = PairLaws p q (prim_of r.0) (prim_of r.1)

-- x passes all of ys, which become ys', and is then the one that is returned; where none is, it does not pass
abbrev pub PassesTo : {Z : Type 0} → primitives.Prim → List primitives.Prim → List primitives.Prim → Option (Primitive Z) → Type 0
PassesTo x ys zs None = (ys' : List primitives.Prim) (x' : primitives.Prim) → CellRow Commutes x ys ys' x' → ⊥
PassesTo x ys zs (Some x') = CellRow Commutes x ys zs (prim_of x')

-- the lists xs then ys commute to the lists that are returned; where none are, they commute to nothing
abbrev pub ListsCommuteTo : {Z Y : Type 0} → List primitives.Prim → List primitives.Prim → Option (Vec (Primitive Z) Y × Vec (Primitive Z) Y) → Type 0
ListsCommuteTo xs ys None = (ys' xs' : List primitives.Prim) → ListsCommute xs ys ys' xs' → ⊥
ListsCommuteTo xs ys (Some r) = ListsCommute xs ys (prims_of r.0.items) (prims_of r.1.items)

-- the three laws hold of the lists that are returned
abbrev pub ListLawsHold : {Z Y : Type 0} → List primitives.Prim → List primitives.Prim → Option (Vec (Primitive Z) Y × Vec (Primitive Z) Y) → Type 0
ListLawsHold xs ys None = Unit {0}
ListLawsHold xs ys (Some r) = ListLaws xs ys (prims_of r.0.items) (prims_of r.1.items)
