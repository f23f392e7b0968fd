-- The heading of a bundle, after a summary for people (Darcs.Patch.Bundle).
use Rattle.std.specs.Prelude.{◌≡◌, ◌≢◌, ℕ, List, [], ◌∷◌, ◌++◌, codes}
use Rattle.dm_named.specs.Words.{NoNewline, Line}

-- the line that begins the new patches
abbrev pub heading_line : List ℕ
heading_line = codes "New patches:"

-- these lines stand at the front, each with its newline, and none of them is the heading
abbrev pub Summary : List ℕ → List (List ℕ) → List ℕ → Type 0
Summary text [] rest = text ≡ rest
Summary text (l ∷ ls) rest = (after : List ℕ) × (text ≡ l ++ 10 ∷ after) × NoNewline l × (l ≢ heading_line) × Summary after ls rest

-- the first line that is exactly the heading, and what is left after it
pub record Heading (text rest : List ℕ) : Type 0 where
  pub summary : List (List ℕ)
  pub here : List ℕ
  pub before : Summary text summary here
  pub line : Line here heading_line rest
