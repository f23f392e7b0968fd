-- Replaces as text (Darcs.Patch.Prim.V1): a set of bytes in brackets, and the token that becomes another one.
use Rattle.std.specs.Prelude.{ℕ, List, [], ◌∷◌, ◌++◌, codes}
use Rattle.dm_tree.specs.Paths.{Path}
use Rattle.dm_tokens.specs.Validity.{TokenWords, AreTokens}
use Rattle.dm_named.specs.Words.{skipped, Word}
use Rattle.dm_named.specs.Paths.{WordAndPath}

-- a set's text in brackets
abbrev pub bracketed : List ℕ → List ℕ
bracketed set = 91 ∷ (set ++ 93 ∷ [])

-- a word after white space
abbrev pub NextWord : List ℕ → List ℕ → List ℕ → Type 0
NextWord text word rest = Word (skipped text) word rest

-- a set in brackets, the old and the new token, each a word of its own; they are valid
pub record TokensText (text : List ℕ) (words : TokenWords) (rest : List ℕ) : Type 0 where
  pub olds : List ℕ
  pub news : List ℕ
  pub set_read : Word text (bracketed words.set) olds
  pub old_read : NextWord olds words.old news
  pub new_read : NextWord news words.new rest
  pub valid : AreTokens words

-- a replace
pub record ReplaceText (text : List ℕ) (p : Path) (words : TokenWords) (rest : List ℕ) : Type 0 where
  pub mid : List ℕ
  pub first : WordAndPath (codes "replace") text p mid
  pub tokens : TokensText (skipped mid) words rest
