-- When two primitives change places: this project's table, made after Darcs.Patch.Prim.V1.Commute, row by row.
-- File work is adding or removing a file, a hunk, a binary and a replace; directory work is adding or removing a directory.
use Rattle.std.specs.Prelude.{◌≡◌, ◌≢◌, ℕ, ◌+◌, ◌<◌, ◌≤◌, List, length, sum_by, ◌⊎◌}
use Rattle.dm_tree.specs.Paths.{Path, Inside, Apart, forward}
use Rattle.dm_tree.specs.Trees.{Lines}
use Rattle.dm_tokens.specs.Turning.{TurnAll}
use Rattle.dm_tokens.specs.Validity.{AreOfSet}
use Rattle.dm_prim.specs.Primitives.{Work, AddFile, RmFile, AddDir, RmDir, Hunk, Binary, Replace, Prim, At, Move, ChangePref}

-- directory work; all other work is file work
abbrev pub IsDirectoryWork : Work → Type 0
IsDirectoryWork AddFile = ⊥
IsDirectoryWork RmFile = ⊥
IsDirectoryWork AddDir = Unit {0}
IsDirectoryWork RmDir = Unit {0}
IsDirectoryWork (Hunk l old new) = ⊥
IsDirectoryWork (Binary old new) = ⊥
IsDirectoryWork (Replace set old new) = ⊥

-- work after which the file is still there, and was there before
abbrev pub KeepsFile : Work → Type 0
KeepsFile AddFile = ⊥
KeepsFile RmFile = ⊥
KeepsFile AddDir = ⊥
KeepsFile RmDir = ⊥
KeepsFile (Hunk l old new) = Unit {0}
KeepsFile (Binary old new) = Unit {0}
KeepsFile (Replace set old new) = Unit {0}

abbrev pub IsHunk : Work → Type 0
IsHunk AddFile = ⊥
IsHunk RmFile = ⊥
IsHunk AddDir = ⊥
IsHunk RmDir = ⊥
IsHunk (Hunk l old new) = Unit {0}
IsHunk (Binary old new) = ⊥
IsHunk (Replace set old new) = ⊥

abbrev pub IsReplace : Work → Type 0
IsReplace AddFile = ⊥
IsReplace RmFile = ⊥
IsReplace AddDir = ⊥
IsReplace RmDir = ⊥
IsReplace (Hunk l old new) = ⊥
IsReplace (Binary old new) = ⊥
IsReplace (Replace set old new) = Unit {0}

-- of two hunks with o1 and o2 old lines, n1 and n2 new ones, the one that ends before line e lies above line m:
-- a line stands between them, or they touch and none of the four counts is zero
abbrev pub LiesAbove : ℕ → ℕ → ℕ → ℕ → ℕ → ℕ → Type 0
LiesAbove e m o1 n1 o2 n2 = (e < m) ⊎ ((e ≡ m) × (0 < o1) × (0 < n1) × (0 < o2) × (0 < n2))

-- work w on f and work v on g: f is not g, and where one of them is directory work, neither path contains the other
pub record WorkAndWork (f : Path) (w : Work) (g : Path) (v : Work) : Type 0 where
  pub differ : f ≢ g
  pub apart : IsDirectoryWork w ⊎ IsDirectoryWork v → Apart f g

-- work w on f, then `move a b`: f is not b nor inside b, f contains neither a nor b, and f is a only where the file is kept
pub record WorkThenMove (f : Path) (w : Work) (a b : Path) : Type 0 where
  pub move_apart : Apart a b
  pub f_not_b : f ≢ b
  pub f_not_in_b : Inside f b → ⊥
  pub a_not_in_f : Inside a f → ⊥
  pub b_not_in_f : Inside b f → ⊥
  pub keeps_at_a : f ≡ a → KeepsFile w

-- the most bytes of the old lines of a hunk that passes a replace, and of its new lines, before and after
abbrev pub most_passed : ℕ
most_passed = 65536

-- the bytes of lines, each of which has one more at its end
abbrev pub lines_size : Lines → ℕ
lines_size ls = sum_by length ls + length ls

-- lines of a hunk turn, by the set that the text means, of which both are tokens, and they aren't too large, before and after
pub record TurnsPart (set_text old new : List ℕ) (ls ls' : Lines) : Type 0 where
  pub tokens : AreOfSet set_text old new
  pub turned : TurnAll tokens.set old new ls ls'
  pub was_small : lines_size ls ≤ most_passed
  pub is_small : lines_size ls' ≤ most_passed

-- two replaces have no token in common
pub record ShareNoToken (old1 new1 old2 new2 : List ℕ) : Type 0 where
  pub olds : old1 ≢ old2
  pub old_new : old1 ≢ new2
  pub new_old : new1 ≢ old2
  pub news : new1 ≢ new2

-- it is no move one of whose paths is, or contains, the other
abbrev pub MovesOutside : Prim → Type 0
MovesOutside (At f w) = Unit {0}
MovesOutside (Move a b) = Apart a b
MovesOutside (ChangePref name old new) = Unit {0}

-- `move a b`, then `move c d`
pub record MoveThenMove (a b c d : Path) : Type 0 where
  pub first_apart : Apart a b
  pub second_apart : Apart c d
  pub c_not_b : c ≢ b
  pub d_not_a : d ≢ a
  pub c_not_a : c ≢ a
  pub d_not_b : d ≢ b
  pub c_not_in_a : Inside c a → ⊥
  pub d_not_in_a : Inside d a → ⊥
  pub a_not_in_d : Inside a d → ⊥
  pub b_not_in_d : Inside b d → ⊥
  pub not_both_inside : Inside a c → Inside d b → ⊥

-- `TableRow p q q' p'`: p then q are q' then p', each a row of the table. A move one of whose paths is, or contains, the other stands in none.
pub data TableRow : Prim → Prim → Prim → Prim → Type 0 where
  -- hunks of one file, the first above the second: the second at line l2 - n1 + o1, the first as it was
  first_above : {f : Path} {l1 l2 l2' : ℕ} {o1 n1 o2 n2 : Lines} →
      LiesAbove (l1 + length n1) l2 (length o1) (length n1) (length o2) (length n2) → l2' + length n1 ≡ l2 + length o1 →
      TableRow (At f (Hunk l1 o1 n1)) (At f (Hunk l2 o2 n2)) (At f (Hunk l2' o2 n2)) (At f (Hunk l1 o1 n1))
  -- hunks of one file, the second above the first: the second as it was, the first at line l1 + n2 - o2
  second_above : {f : Path} {l1 l2 l1' : ℕ} {o1 n1 o2 n2 : Lines} →
      LiesAbove (l2 + length o2) l1 (length o1) (length n1) (length o2) (length n2) → l1' + length o2 ≡ l1 + length n2 →
      TableRow (At f (Hunk l1 o1 n1)) (At f (Hunk l2 o2 n2)) (At f (Hunk l2 o2 n2)) (At f (Hunk l1' o1 n1))
  -- a hunk, then a replace of its file: the replace as it was, the hunk with its lines turned
  hunk_replace : {f : Path} {l : ℕ} {old new old' new' : Lines} {set o n : List ℕ} → TurnsPart set o n old old' → TurnsPart set o n new new' →
      TableRow (At f (Hunk l old new)) (At f (Replace set o n)) (At f (Replace set o n)) (At f (Hunk l old' new'))
  -- a replace, then a hunk of its file: the hunk with its lines turned back, the replace as it was
  replace_hunk : {f : Path} {l : ℕ} {old new old' new' : Lines} {set o n : List ℕ} → TurnsPart set n o old old' → TurnsPart set n o new new' →
      TableRow (At f (Replace set o n)) (At f (Hunk l old new)) (At f (Hunk l old' new')) (At f (Replace set o n))
  -- two replaces of one file, by the same set: both as they were
  two_replaces : {f : Path} {set o1 n1 o2 n2 : List ℕ} → ShareNoToken o1 n1 o2 n2 →
      TableRow (At f (Replace set o1 n1)) (At f (Replace set o2 n2)) (At f (Replace set o2 n2)) (At f (Replace set o1 n1))
  -- work on f, then work on g: both as they were
  two_works : {f g : Path} {w v : Work} → WorkAndWork f w g v →
      TableRow (At f w) (At g v) (At g v) (At f w)
  -- work on f, then `move a b`: the move as it was, the work with f forward through it
  work_move : {f f' a b : Path} {w : Work} → WorkThenMove f w a b → f' ≡ forward a b f →
      TableRow (At f w) (Move a b) (Move a b) (At f' w)
  -- `move a b`, then work on f: the work with f back through the move, which is forward through `move b a`; the move as it was
  move_work : {f f' a b : Path} {w : Work} → WorkThenMove f w b a → f' ≡ forward b a f →
      TableRow (Move a b) (At f w) (At f' w) (Move a b)
  -- `move a b`, then `move c d`: the second with c and d back through the first, the first with a and b forward through that
  two_moves : {a b c d a' b' c' d' : Path} → MoveThenMove a b c d →
      c' ≡ forward b a c → d' ≡ forward b a d → a' ≡ forward c' d' a → b' ≡ forward c' d' b →
      TableRow (Move a b) (Move c d) (Move c' d') (Move a' b')
  -- another value for a preference, before or after any primitive: both as they were
  preference_first : {name old new : List ℕ} {q : Prim} → MovesOutside q →
      TableRow (ChangePref name old new) q q (ChangePref name old new)
  preference_second : {name old new : List ℕ} {p : Prim} → MovesOutside p →
      TableRow p (ChangePref name old new) (ChangePref name old new) p
