-- What each change of a tree may answer, by what stood there before, and what it does. A fault comes where no earlier one of its call does.
use Rattle.std.specs.Prelude.{◌≡◌, ◌≢◌, ℕ, ◌+◌, ◌-◌, ◌<◌, ◌≤◌, [], ◌∷◌, ◌++◌, take, drop, length, Some, None, Result, Ok, Err}
use Rattle.std.specs.FinMap as map
use Rattle.dm_tree.specs.declared.fault.TreeFault.{TreeFault}
use Rattle.dm_tree.specs.declared.fault.TreeFault.TheVariants.{NoParent, Occupied, Missing, NotFile, NotDir, NotEmpty, IntoItself, LineRange, OldDiffers, NoLines, TooDeep, NoMemory}
use Rattle.dm_tree.specs.Limits.{most_names}
use Rattle.dm_tree.specs.Paths.{Name, Path, Under}
use Rattle.dm_tree.specs.Trees.{Lines, Dir, File, Map, Tree, HasParent, empty_file}

-- what adding an entry at p may answer
abbrev pub AddAnswers : {T : Type 0} → Map → Path → Result T TreeFault → Type 0
AddAnswers m p (Ok x) = HasParent p m × (m p ≡ None)
AddAnswers m p (Err NoParent) = HasParent p m → ⊥
AddAnswers m p (Err Occupied) = HasParent p m × (m p ≢ None)
AddAnswers m p (Err NoMemory) = HasParent p m × (m p ≡ None)
AddAnswers m p (Err e) = ⊥

-- what removing the file at p may answer; it takes no memory
abbrev pub RemoveFileAnswers : {T : Type 0} → Map → Path → Result T TreeFault → Type 0
RemoveFileAnswers m p (Ok x) = m p ≡ Some empty_file
RemoveFileAnswers m p (Err Missing) = m p ≡ None
RemoveFileAnswers m p (Err NotFile) = m p ≡ Some Dir
RemoveFileAnswers m p (Err NotEmpty) = (ls : Lines) × (m p ≡ Some (File ls)) × (ls ≢ [] ∷ [])
RemoveFileAnswers m p (Err e) = ⊥

-- what removing the directory at p may answer; it takes no memory
abbrev pub RemoveDirAnswers : {T : Type 0} → Map → Path → Result T TreeFault → Type 0
RemoveDirAnswers m p (Ok x) = (m p ≡ Some Dir) × ((n : Name) → m (p ++ n ∷ []) ≡ None)
RemoveDirAnswers m p (Err Missing) = m p ≡ None
RemoveDirAnswers m p (Err NotDir) = (ls : Lines) × (m p ≡ Some (File ls))
RemoveDirAnswers m p (Err NotEmpty) = (m p ≡ Some Dir) × ((n : Name) × (m (p ++ n ∷ []) ≢ None))
RemoveDirAnswers m p (Err e) = ⊥

-- a may be moved to b
pub record MayMove (m : Map) (a b : Path) : Type 0 where
  pub present : m a ≢ None
  pub not_into : Under b a → ⊥
  pub parent_is : HasParent b m
  pub absent : m b ≡ None

-- what renaming a to b may answer
abbrev pub RenameAnswers : {T : Type 0} → Map → Path → Path → Result T TreeFault → Type 0
RenameAnswers m a b (Ok x) = MayMove m a b × ((r : Path) → m (a ++ r) ≢ None → length (b ++ r) ≤ most_names)
RenameAnswers m a b (Err Missing) = m a ≡ None
RenameAnswers m a b (Err IntoItself) = (m a ≢ None) × Under b a
RenameAnswers m a b (Err NoParent) = (m a ≢ None) × (Under b a → ⊥) × (HasParent b m → ⊥)
RenameAnswers m a b (Err Occupied) = (m a ≢ None) × (Under b a → ⊥) × HasParent b m × (m b ≢ None)
RenameAnswers m a b (Err TooDeep) = MayMove m a b × ((r : Path) × (m (a ++ r) ≢ None) × (most_names < length (b ++ r)))
RenameAnswers m a b (Err NoMemory) = MayMove m a b × ((r : Path) → m (a ++ r) ≢ None → length (b ++ r) ≤ most_names)
RenameAnswers m a b (Err e) = ⊥

-- what was at or under a is at or under b
pub record Renamed (a b : Path) (m m' : Map) : Type 0 where
  pub there : (r : Path) → m' (b ++ r) ≡ m (a ++ r)
  pub gone : (r : Path) → m' (a ++ r) ≡ None
  pub elsewhere : (q : Path) → (Under q a → ⊥) → (Under q b → ⊥) → m' q ≡ m q

-- the lines ls with old at line l (from 1) replaced by new
pub record ReplacesLines (l : ℕ) (old new ls ls' : Lines) : Type 0 where
  pub front : Lines
  pub back : Lines
  pub at : length front + 1 ≡ l
  pub before : ls ≡ front ++ (old ++ back)
  pub after : ls' ≡ front ++ (new ++ back)
  pub left : ls' ≢ []

-- line n is in range for so many old lines
abbrev pub InRange : ℕ → ℕ → ℕ → Type 0
InRange n old count = (0 < n) × (n + old ≤ count + 1)

-- what an edit at p may answer
abbrev pub EditAnswers : {T : Type 0} → Map → Path → ℕ → Lines → Lines → Result T TreeFault → Type 0
EditAnswers m p n old new (Ok x) = (ls : Lines) × (ls' : Lines) × (m p ≡ Some (File ls)) × ReplacesLines n old new ls ls'
EditAnswers m p n old new (Err Missing) = m p ≡ None
EditAnswers m p n old new (Err NotFile) = m p ≡ Some Dir
EditAnswers m p n old new (Err LineRange) = (ls : Lines) × (m p ≡ Some (File ls)) × (InRange n (length old) (length ls) → ⊥)
EditAnswers m p n old new (Err OldDiffers) = (ls : Lines) × (m p ≡ Some (File ls)) × InRange n (length old) (length ls) × (take (length old) (drop (n - 1) ls) ≢ old)
EditAnswers m p n old new (Err NoLines) = (ls : Lines) × (m p ≡ Some (File ls)) × (ls ≡ old) × (n ≡ 1) × (new ≡ [])
EditAnswers m p n old new (Err NoMemory) = (ls : Lines) × (ls' : Lines) × (m p ≡ Some (File ls)) × ReplacesLines n old new ls ls'
EditAnswers m p n old new (Err e) = ⊥

-- the file at p has its lines replaced, and all else stays
abbrev pub Edited : Path → ℕ → Lines → Lines → Tree → Tree → Type 0
Edited p n old new t t' = (ls : Lines) × (ls' : Lines) × (map.get t p ≡ Some (File ls)) × ReplacesLines n old new ls ls' × (t' ≡ map.insert t p (File ls'))
