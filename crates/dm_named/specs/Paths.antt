-- How a path is spelled (Darcs.Util.Path; Darcs.Patch.Show, formatFileName): a dot, and each name after a slash, with a backslash,
-- a code and a backslash for a byte that can't stand for itself.
use Rattle.std.specs.Prelude.{◌≡◌, ◌≢◌, ◌≤◌, ◌⊎◌, ◌==◌, ℕ, false, List, [], ◌∷◌, ◌++◌, length}
use Rattle.std.specs.List.{AllByRecursion}
use Rattle.dm_tree.specs.Paths.{Path}
use Rattle.dm_tree.specs.Validity.{IsValidPath}
use Rattle.dm_named.specs.Many.{Many}
use Rattle.dm_named.specs.Words.{IsDigit, number_from, skipped, Word}

-- one to three digits of a number from 1 to 127
pub record IsCode (digits : List ℕ) (b : ℕ) : Type 0 where
  pub each : AllByRecursion IsDigit digits
  pub few : length digits ≤ 3
  pub value : number_from 0 digits ≡ b
  pub low : 1 ≤ b
  pub high : b ≤ 127

-- a backslash, a code and a backslash
pub record Escape (text : List ℕ) (b : ℕ) (rest : List ℕ) : Type 0 where
  pub digits : List ℕ
  pub parts : text ≡ 92 ∷ (digits ++ 92 ∷ rest)
  pub code : IsCode digits b

-- a byte of a name: it stands for itself, unless it is a backslash, or it is escaped
abbrev pub NameByte : List ℕ → ℕ → List ℕ → Type 0
NameByte text b rest = ((text ≡ b ∷ rest) × (b ≢ 92)) ⊎ Escape text b rest

-- the whole text is that of the name
abbrev pub IsNameText : List ℕ → List ℕ → Type 0
IsNameText text name = Many NameByte text name []

-- no byte is a slash
abbrev pub NoSlash : List ℕ → Type 0
NoSlash piece = AllByRecursion (λ b. (b == 47) ≡ false) piece

-- a piece ends here: before a slash or at the end
abbrev pub EndsPiece : List ℕ → Type 0
EndsPiece rest = (rest ≡ []) ⊎ ((more : List ℕ) × (rest ≡ 47 ∷ more))

-- what stands before the next slash, or the end
pub record Piece (text piece rest : List ℕ) : Type 0 where
  pub parts : text ≡ piece ++ rest
  pub free : NoSlash piece
  pub ends : EndsPiece rest

-- a slash, and the text of a name up to the next slash or the end: the text is cut before its escapes are resolved
pub record SlashName (text : List ℕ) (name rest : List ℕ) : Type 0 where
  pub inside : List ℕ
  pub piece : List ℕ
  pub slash : text ≡ 47 ∷ inside
  pub cut : Piece inside piece rest
  pub spelled : IsNameText piece name

-- the whole word is that of the path
pub record IsPathText (word : List ℕ) (p : Path) : Type 0 where
  pub names : List ℕ
  pub dot : word ≡ 46 ∷ names
  pub each : Many SlashName names p []
  pub valid : IsValidPath p

-- the word at the front is that of the path
pub record PathWord (text : List ℕ) (p : Path) (rest : List ℕ) : Type 0 where
  pub word : List ℕ
  pub stands : Word text word rest
  pub spelled : IsPathText word p

-- a path after white space
abbrev pub NextPath : List ℕ → Path → List ℕ → Type 0
NextPath text p rest = PathWord (skipped text) p rest

-- this word, and a path
pub record WordAndPath (word text : List ℕ) (p : Path) (rest : List ℕ) : Type 0 where
  pub after : List ℕ
  pub named : Word text word after
  pub path : NextPath after p rest
