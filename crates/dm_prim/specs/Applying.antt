-- What applying primitives to a tree may answer.
use Rattle.std.specs.Prelude.{◌≡◌, ◌≢◌, ◌≤◌, ◌<◌, ◌⊎◌, ℕ, List, ◌∷◌, ◌++◌, take, Contains, Some, None, Result, Ok, Err}
use Rattle.std.specs.FinMap as map
use Rattle.dm_tree.specs.declared.fault.TreeFault.{TreeFault}
use Rattle.dm_tree.specs.declared.fault.TreeFault.TheVariants.{Missing, NotFile, OldDiffers, TokenThere, TooLarge, TooDeep, NoMemory}
use Rattle.dm_tree.specs.Paths.{Path}
use Rattle.dm_tree.specs.Trees.{Lines, Dir, File, Map, Tree, Deep}
use Rattle.dm_tree.specs.Changes.{AddAnswers, RemoveFileAnswers, RemoveDirAnswers, RenameAnswers, EditAnswers}
use Rattle.dm_tree.specs.Listings.{file_size}
use Rattle.dm_tokens.specs.Turning.{TurnAll}
use Rattle.dm_tokens.specs.Sets.{ByteSet, set_of}
use Rattle.dm_tokens.specs.Pieces.{HasPiece}
use Rattle.dm_prim.specs.InTurn.{InTurn}
use Rattle.dm_prim.specs.Primitives.{AddFile, RmFile, AddDir, RmDir, Hunk, Binary, Replace, Prim, At, Move, ChangePref, Applies, TurnsLines}
use Rattle.dm_prim.specs.Limits.{most_turned, TurnsLarge, IsPastLimits}

-- when a fault may come: the primitive does not apply, or it does and what it makes is too deep; where a file is too large, a replace in it may
-- apply all the same; memory may run out at any time
abbrev pub AdmitsFault : Prim → Map → TreeFault → Type 0
AdmitsFault p m NoMemory = Unit {0}
AdmitsFault p m TooDeep = (m' : Map) × Applies p m m' × Deep m'
AdmitsFault p m TooLarge = (m' : Map) → Applies p m m' → TurnsLarge p m m'
AdmitsFault p m e = (m' : Map) → Applies p m m' → ⊥

-- the tree t became t' as the primitive says; after a fault it is as it was
abbrev pub Applied : {T : Type 0} → Prim → Tree → Tree → Result T TreeFault → Type 0
Applied p t t' (Ok x) = Applies p (map.get t) (map.get t')
Applied p t t' (Err e) = (t' ≡ t) × AdmitsFault p (map.get t) e

-- what a binary at p may answer: all lines of the file have to be the old ones
abbrev pub BinaryAnswers : {T : Type 0} → Map → Path → Lines → Result T TreeFault → Type 0
BinaryAnswers m p old (Ok x) = m p ≡ Some (File old)
BinaryAnswers m p old (Err Missing) = m p ≡ None
BinaryAnswers m p old (Err NotFile) = m p ≡ Some Dir
BinaryAnswers m p old (Err OldDiffers) = (ls : Lines) × (m p ≡ Some (File ls)) × (ls ≢ old)
BinaryAnswers m p old (Err NoMemory) = m p ≡ Some (File old)
BinaryAnswers m p old (Err e) = ⊥

-- the new token, which isn't the old one, stands in one of the lines
pub record HasNewToken (set_text old new : List ℕ) (ls : Lines) : Type 0 where
  pub set : ByteSet
  pub means : set_of set_text ≡ Some set
  pub differ : old ≢ new
  pub line : List ℕ
  pub among : Contains ls line
  pub there : HasPiece set line new

-- the lines turn, but to too many bytes
pub record GrowsTooLarge (set_text old new : List ℕ) (ls : Lines) : Type 0 where
  pub set : ByteSet
  pub means : set_of set_text ≡ Some set
  pub lines : Lines
  pub turned : TurnAll set old new ls lines
  pub large : most_turned < file_size lines

-- the lines turn, and aren't too large, before and after
pub record TurnsWithin (set_text old new : List ℕ) (ls ls' : Lines) : Type 0 where
  pub turns : TurnsLines set_text old new ls ls'
  pub was_small : file_size ls ≤ most_turned
  pub is_small : file_size ls' ≤ most_turned

-- what a replace at p may answer: the file may not be too large, no line may have the new token unless it is the old one, and the turned file may
-- not be too large
abbrev pub ReplaceAnswers : {T : Type 0} → Map → Path → List ℕ → List ℕ → List ℕ → Result T TreeFault → Type 0
ReplaceAnswers m p set old new (Ok x) = (ls : Lines) × (ls' : Lines) × (m p ≡ Some (File ls)) × TurnsWithin set old new ls ls'
ReplaceAnswers m p set old new (Err Missing) = m p ≡ None
ReplaceAnswers m p set old new (Err NotFile) = m p ≡ Some Dir
ReplaceAnswers m p set old new (Err TokenThere) = (ls : Lines) × (m p ≡ Some (File ls)) × (file_size ls ≤ most_turned) × HasNewToken set old new ls
ReplaceAnswers m p set old new (Err TooLarge) = (ls : Lines) × (m p ≡ Some (File ls)) × ((most_turned < file_size ls) ⊎ ((file_size ls ≤ most_turned) × GrowsTooLarge set old new ls))
ReplaceAnswers m p set old new (Err NoMemory) = (ls : Lines) × (ls' : Lines) × (m p ≡ Some (File ls)) × TurnsWithin set old new ls ls'
ReplaceAnswers m p set old new (Err e) = ⊥

-- which fault comes, by what stood there before: that of the tree's call which the primitive is; a change of a preference has none
abbrev pub FaultsAs : {T : Type 0} → Prim → Map → Result T TreeFault → Type 0
FaultsAs (At p AddFile) m r = AddAnswers m p r
FaultsAs (At p RmFile) m r = RemoveFileAnswers m p r
FaultsAs (At p AddDir) m r = AddAnswers m p r
FaultsAs (At p RmDir) m r = RemoveDirAnswers m p r
FaultsAs (At p (Hunk n old new)) m r = EditAnswers m p n old new r
FaultsAs (At p (Binary old new)) m r = BinaryAnswers m p old r
FaultsAs (At p (Replace set old new)) m r = ReplaceAnswers m p set old new r
FaultsAs (Move a b) m r = RenameAnswers m a b r
FaultsAs (ChangePref name old new) m (Ok x) = Unit {0}
FaultsAs (ChangePref name old new) m (Err e) = ⊥

-- a primitive makes one tree of another, past no limit
abbrev pub AppliesToTree : Prim → Tree → Tree → Type 0
AppliesToTree p t t' = Applies p (map.get t) (map.get t') × (IsPastLimits p (map.get t) (map.get t') → ⊥)

-- the tree t became t' by all of ps in turn, none of which went past a limit; after a fault at place k, by the first k of them, and the next is the first with a fault, which is this one
abbrev pub AppliedAll : {T : Type 0} → List Prim → Tree → Tree → Result T (ℕ × TreeFault) → Type 0
AppliedAll ps t t' (Ok x) = InTurn AppliesToTree ps t t'
AppliedAll {T} ps t t' (Err r) = (p : Prim) × (rest : List Prim) × (ps ≡ take r.0 ps ++ p ∷ rest) × InTurn AppliesToTree (take r.0 ps) t t' ×
    AdmitsFault p (map.get t') r.1 × FaultsAs {T = T} p (map.get t') (Err r.1)
