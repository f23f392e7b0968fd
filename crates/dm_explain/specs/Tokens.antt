-- The tokens of a replace.
use Rattle.std.specs.Prelude.{◌≡◌, ◌⊎◌, ℕ, List}
use Rattle.dm_tokens.specs.Validity.{TokenWords}

-- the text is the old token or the new one
abbrev pub IsEither : List ℕ → TokenWords → Type 0
IsEither token words = (token ≡ words.old) ⊎ (token ≡ words.new)
