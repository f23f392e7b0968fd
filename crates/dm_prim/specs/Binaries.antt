-- A binary as contracts see it: all lines of a file, before and after.
use Rattle.std.specs.Prelude.{◌≡◌, [], ◌⊎◌, Result, Ok, Err}
use Rattle.dm_tree.specs.Paths.{Path}
use Rattle.dm_tree.specs.Trees.{Lines}
use Rattle.dm_prim.specs.Primitives.{Prim, At, Binary}
use Rattle.dm_prim.specs.Commuting.{IsValidPrim}

-- the lines of the file at a path are replaced, all of them
pub record BinaryParts : Type 0 where
  pub path : Path
  pub old : Lines
  pub new : Lines

-- the primitive that a binary is
abbrev pub binary_of : BinaryParts → Prim
binary_of b = At b.path (Binary b.old b.new)

-- a binary is what it was made of, and valid; it is refused only where there is no old or no new line
abbrev pub MakesBinary : {E : Type 0} → BinaryParts → Result BinaryParts E → Type 0
MakesBinary b (Ok r) = (r ≡ b) × IsValidPrim (binary_of b)
MakesBinary b (Err e) = (b.old ≡ []) ⊎ (b.new ≡ [])
