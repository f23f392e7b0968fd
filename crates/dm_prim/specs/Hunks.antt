-- A hunk as contracts see it, with its lines turned, and the lines of two hunks of one file that changed places.
use Rattle.std.specs.Prelude.{◌≡◌, ℕ, ◌+◌, ◌<◌, ◌⊎◌, length, Result, Ok, Err}
use Rattle.dm_tree.specs.Paths.{Path}
use Rattle.dm_tree.specs.Trees.{Lines}
use Rattle.dm_tokens.specs.Validity.{TokenWords}
use Rattle.dm_prim.specs.Primitives.{Prim, At, Hunk}
use Rattle.dm_prim.specs.Table.{LiesAbove, TurnsPart}
use Rattle.dm_prim.specs.Commuting.{IsValidPrim}
use Rattle.dm_prim.specs.declared.hunk.HunkFault.{HunkFault}
use Rattle.dm_prim.specs.declared.hunk.HunkFault.TheVariants.{BadLine, NoChange}

-- at a line of the file at a path, old lines are replaced by new
pub record HunkParts : Type 0 where
  pub path : Path
  pub line : ℕ
  pub old : Lines
  pub new : Lines

-- the primitive that a hunk is
abbrev pub hunk_of : HunkParts → Prim
hunk_of h = At h.path (Hunk h.line h.old h.new)

-- with its lines turned by these words, a hunk becomes another one
pub record TurnsHunk (w : TokenWords) (h h' : HunkParts) : Type 0 where
  pub path : h'.path ≡ h.path
  pub line : h'.line ≡ h.line
  pub old : TurnsPart w.set w.old w.new h.old h'.old
  pub new : TurnsPart w.set w.old w.new h.new h'.new

-- a hunk is what it was made of, and valid; at line 0, or with neither old nor new lines, it is refused
abbrev pub MakesHunk : HunkParts → Result HunkParts HunkFault → Type 0
MakesHunk h (Ok r) = (r ≡ h) × IsValidPrim (hunk_of h)
MakesHunk h (Err BadLine) = h.line ≡ 0
MakesHunk h (Err NoChange) = (0 < h.line) × (length h.old + length h.new ≡ 0)

-- of two hunks, the first at l1 with o1 old and n1 new lines, then the second at l2: the second at m, then the first at k
abbrev pub ChangePlaces : ℕ → ℕ → ℕ → ℕ → ℕ → ℕ → ℕ → ℕ → Type 0
ChangePlaces l1 o1 n1 l2 o2 n2 m k =
    (LiesAbove (l1 + n1) l2 o1 n1 o2 n2 × (m + n1 ≡ l2 + o1) × (k ≡ l1)) ⊎
    (LiesAbove (l2 + o2) l1 o1 n1 o2 n2 × (m ≡ l2) × (k + o2 ≡ l1 + n2))
