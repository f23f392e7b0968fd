-- The words of a patch that replaces a token.
use Rattle.std.specs.Prelude.{◌≡◌, ◌<◌, ◌≤◌, ℕ, Bool, false, ◌&&◌, ◌||◌, ◌==◌, nat_le, List, length, All, Some, Result, Ok, Err}
use Rattle.dm_tokens.specs.Sets.{ByteSet, set_of}
use Rattle.dm_tokens.specs.Pieces.{IsToken}

-- the bytes 9 to 13 and 32
abbrev pub is_space : ℕ → Bool
is_space b = nat_le 9 b && nat_le b 13 || b == 32

-- what may stand in a word: at most 255 bytes, each of them below 128 and no space
abbrev pub IsWordPart : List ℕ → Type 0
IsWordPart word = (length word ≤ 255) × All (λ b. (b < 128) × (is_space b ≡ false)) word

-- a set, as its text between brackets, and two tokens
pub record TokenWords : Type 0 where
  pub set : List ℕ
  pub old : List ℕ
  pub new : List ℕ

-- a text means a set without the newline, of which both are tokens
pub record AreOfSet (text old new : List ℕ) : Type 0 where
  pub set : ByteSet
  pub means : set_of text ≡ Some set
  pub no_newline : set 10 ≡ false
  pub old_token : IsToken set old
  pub new_token : IsToken set new

-- tokens as a patch names them
pub record AreTokens (w : TokenWords) : Type 0 where
  pub set_word : IsWordPart w.set
  pub old_word : IsWordPart w.old
  pub new_word : IsWordPart w.new
  pub of_set : AreOfSet w.set w.old w.new

-- tokens are what they were made of, and valid; they are refused only where they aren't
abbrev pub MakesTokens : {E : Type 0} → TokenWords → Result TokenWords E → Type 0
MakesTokens w (Ok r) = (r ≡ w) × AreTokens w
MakesTokens w (Err e) = AreTokens w → ⊥
