-- What a patch info is, wherever it lies in memory.
use Rattle.std.specs.Prelude.{ℕ, Bool, false, ◌≡◌, ◌==◌, ◌||◌, List}
use Rattle.std.specs.List.{AllByRecursion}

-- the four parts, which together are a patch's identity
pub record PatchInfo : Type 0 where
  pub name : List ℕ
  pub author : List ℕ
  pub date : List ℕ
  pub log : List (List ℕ)

-- the parts that four texts give
abbrev pub info_from : List ℕ → List ℕ → List ℕ → List (List ℕ) → PatchInfo
info_from name author date log = record { name = name; author = author; date = date; log = log }

-- the parts that stand before the log
pub record FirstParts : Type 0 where
  pub name : List ℕ
  pub author : List ℕ
  pub date : List ℕ

-- the patch info that these parts and a log give
abbrev pub info_with : FirstParts → List (List ℕ) → PatchInfo
info_with parts log = info_from parts.name parts.author parts.date log

-- no byte of the text passes the test
abbrev pub Free : (ℕ → Bool) → List ℕ → Type 0
Free test xs = AllByRecursion (λ x. test x ≡ false) xs

-- a newline
abbrev pub is_newline : ℕ → Bool
is_newline x = x == 10

-- a star or a newline
abbrev pub ends_author : ℕ → Bool
ends_author x = x == 42 || x == 10

-- a closing bracket or a newline
abbrev pub ends_date : ℕ → Bool
ends_date x = x == 93 || x == 10

-- each line is without a newline
abbrev pub AreLines : List (List ℕ) → Type 0
AreLines lines = AllByRecursion (Free is_newline) lines

-- The parts may be those of a patch info: no newline anywhere, no star in the author, no closing bracket in the date.
pub record IsInfo (i : PatchInfo) : Type 0 where
  pub name : Free is_newline i.name
  pub author : Free ends_author i.author
  pub date : Free ends_date i.date
  pub log : AreLines i.log
