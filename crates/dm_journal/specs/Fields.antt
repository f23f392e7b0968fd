-- A field of a header that isn't known.
use Rattle.std.specs.Prelude.{◌≡◌, ◌≢◌, ◌⊎◌, ◌==◌, ℕ, List, [], ◌∷◌, ◌++◌, codes, false}
use Rattle.std.specs.List.{list_any}

-- a field that a known header has, with its value
abbrev pub IsField : List ℕ → Type 0
IsField line = (line ≡ codes "kinds six") ⊎ (line ≡ codes "kinds all") ⊎ (line ≡ codes "checksum sha256") ⊎ (line ≡ codes "checksum lanes") ⊎ (line ≡ codes "base counted")

-- the bytes are a line, which no newline is in, a newline, and the rest
pub record BeginsWithLine (bytes line rest : List ℕ) : Type 0 where
  pub whole : list_any (λ byte. byte == 10) line ≡ false
  pub is : bytes ≡ line ++ 10 ∷ rest

-- the bytes are a line of each field in turn, all of them known, and the rest
abbrev pub AreFields : List ℕ → List (List ℕ) → List ℕ → Type 0
AreFields bytes [] rest = bytes ≡ rest
AreFields bytes (line ∷ lines) rest = (more : List ℕ) × IsField line × BeginsWithLine bytes line more × AreFields more lines rest

-- behind the first line of the file's header, and behind known fields, stands this line, which is neither empty nor a known field
pub record UnknownField (file field : List ℕ) : Type 0 where
  pub bytes : List ℕ
  pub is : file ≡ codes "dm journal fields\n" ++ bytes
  pub lines : List (List ℕ)
  pub rest : List ℕ
  pub known : AreFields bytes lines rest
  pub more : List ℕ
  pub stands : BeginsWithLine rest field more
  pub some : field ≢ []
  pub unknown : ¬ IsField field
