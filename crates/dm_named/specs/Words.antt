-- White space, words, lines and numbers at the front of a text. A relation `R text value rest` says that the value stands at the
-- front of the text, and that this rest is left after it.
use Rattle.std.specs.Prelude.{◌≡◌, ◌≤◌, ◌⊎◌, ◌+◌, ◌*◌, ◌-◌, ◌<◌, ◌^◌, ◌==◌, ◌&&◌, ◌||◌, nat_le, ℕ, Bool, false, true, List, [], ◌∷◌, ◌++◌, if◌then◌else◌}
use Rattle.std.specs.List.{AllByRecursion}
use Rattle.dm_named.specs.Many.{Many}

-- the bytes 9 to 13 and 32
abbrev pub is_white : ℕ → Bool
is_white b = nat_le 9 b && nat_le b 13 || b == 32

-- what is left after the white space at the front
abbrev pub skipped : List ℕ → List ℕ
skipped [] = []
skipped (b ∷ text) = if is_white b then skipped text else b ∷ text

-- the text begins with this byte
abbrev pub Begins : ℕ → List ℕ → Type 0
Begins b text = (rest : List ℕ) × (text ≡ b ∷ rest)

-- this byte after white space
abbrev pub NextByte : ℕ → List ℕ → List ℕ → Type 0
NextByte b text rest = skipped text ≡ b ∷ rest

-- a word ends here: at the end of the text or before white space
abbrev pub EndsWord : List ℕ → Type 0
EndsWord [] = Unit {0}
EndsWord (b ∷ rest) = is_white b ≡ true

-- the longest run of bytes at the front that aren't white space; at white space and at the end it is empty
pub record Word (text word rest : List ℕ) : Type 0 where
  pub parts : text ≡ word ++ rest
  pub solid : AllByRecursion (λ b. is_white b ≡ false) word
  pub ends : EndsWord rest

-- the word is one of these
abbrev pub Among : List (List ℕ) → List ℕ → Type 0
Among [] word = ⊥
Among (w ∷ words) word = (word ≡ w) ⊎ Among words word

-- the word at the front is one of these
pub record WordAmong (words : List (List ℕ)) (text : List ℕ) : Type 0 where
  pub word : List ℕ
  pub rest : List ℕ
  pub stands : Word text word rest
  pub among : Among words word

-- no byte is a newline
abbrev pub NoNewline : List ℕ → Type 0
NoNewline line = AllByRecursion (λ b. (b == 10) ≡ false) line

-- the bytes up to a newline, or up to the end of the text
pub record Line (text line rest : List ℕ) : Type 0 where
  pub free : NoNewline line
  pub parts : (text ≡ line ++ 10 ∷ rest) ⊎ ((text ≡ line) × (rest ≡ []))

-- a line with this byte before it
pub record MarkedLine (b : ℕ) (text line rest : List ℕ) : Type 0 where
  pub inside : List ℕ
  pub mark : text ≡ b ∷ inside
  pub read : Line inside line rest

-- lines with this byte before each, as many as follow one another
pub record LineGroup (b : ℕ) (text : List ℕ) (lines : List (List ℕ)) (rest : List ℕ) : Type 0 where
  pub read : Many (MarkedLine b) text lines rest
  pub ends : Begins b rest → ⊥

-- a digit
abbrev pub IsDigit : ℕ → Type 0
IsDigit b = (48 ≤ b) × (b ≤ 57)

-- the number that n and the digits after it stand for
abbrev pub number_from : ℕ → List ℕ → ℕ
number_from n [] = n
number_from n (d ∷ ds) = number_from (10 * n + (d - 48)) ds

-- digits of a number from 1 to 4,294,967,295
pub record IsNumberText (digits : List ℕ) (n : ℕ) : Type 0 where
  pub each : AllByRecursion IsDigit digits
  pub value : number_from 0 digits ≡ n
  pub low : 1 ≤ n
  pub high : n < 2 ^ 32

-- a line of white space
pub record BlankLine (text rest : List ℕ) : Type 0 where
  pub blank : List ℕ
  pub line : Line text blank rest
  pub white : AllByRecursion (λ b. is_white b ≡ true) blank

-- a word that is the number of a line, and nothing but white space after it up to the end of its line
pub record NumberLine (text : List ℕ) (n : ℕ) (rest : List ℕ) : Type 0 where
  pub digits : List ℕ
  pub after : List ℕ
  pub word : Word text digits after
  pub number : IsNumberText digits n
  pub end : BlankLine after rest
