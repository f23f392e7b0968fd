-- Binaries as text (Darcs.Patch.Prim.V1): the bytes of a file before and after, in hex.
use Rattle.std.specs.Prelude.{ℕ, List, codes}
use Rattle.dm_tree.specs.Paths.{Path}
use Rattle.dm_tree.specs.Trees.{Lines}
use Rattle.dm_hex.specs.Digits.{IsHexOfLines}
use Rattle.dm_named.specs.Words.{skipped, Word, LineGroup}
use Rattle.dm_named.specs.Paths.{WordAndPath}

-- lines that begin with a star, as many as follow one another: their digits, put together, stand for the content with these lines
pub record Stars (text : List ℕ) (lines : Lines) (rest : List ℕ) : Type 0 where
  pub digits : Lines
  pub read : LineGroup 42 text digits rest
  pub hex : IsHexOfLines digits lines

-- this word, and lines in hex after white space
pub record WordAndStars (word text : List ℕ) (lines : Lines) (rest : List ℕ) : Type 0 where
  pub after : List ℕ
  pub named : Word text word after
  pub stars : Stars (skipped after) lines rest

-- what follows a binary's path: the old and the new lines
pub record BinaryBody (text : List ℕ) (old new : Lines) (rest : List ℕ) : Type 0 where
  pub mid : List ℕ
  pub olds : WordAndStars (codes "oldhex") (skipped text) old mid
  pub news : WordAndStars (codes "newhex") (skipped mid) new rest

-- a binary
pub record BinaryText (text : List ℕ) (p : Path) (old new : Lines) (rest : List ℕ) : Type 0 where
  pub mid : List ℕ
  pub first : WordAndPath (codes "binary") text p mid
  pub body : BinaryBody mid old new rest
