-- Changes of preferences as text (Darcs.Patch.Prim.V1).
use Rattle.std.specs.Prelude.{◌≡◌, ◌≢◌, ℕ, true, List, [], ◌∷◌, ◌++◌, codes}
use Rattle.dm_named.specs.Words.{skipped, Word, NoNewline, Line, is_white}
use Rattle.std.specs.List.{AllByRecursion}

-- a line that ends with a newline
pub record WholeLine (text line rest : List ℕ) : Type 0 where
  pub free : NoNewline line
  pub parts : text ≡ line ++ 10 ∷ rest

-- a line of white space that ends with a newline
pub record WholeBlankLine (text rest : List ℕ) : Type 0 where
  pub blank : List ℕ
  pub line : WholeLine text blank rest
  pub white : AllByRecursion (λ b. is_white b ≡ true) blank

-- a name that is alone on its line, and a line for the old and for the new value
pub record PreferenceLines (text name old new rest : List ℕ) : Type 0 where
  pub after : List ℕ
  pub olds : List ℕ
  pub news : List ℕ
  pub word : Word text name after
  pub some : name ≢ []
  pub end : WholeBlankLine after olds
  pub old_read : WholeLine olds old news
  pub new_read : Line news new rest

-- a change of a preference
pub record PreferenceText (text name old new rest : List ℕ) : Type 0 where
  pub after : List ℕ
  pub named : Word text (codes "changepref") after
  pub lines : PreferenceLines (skipped after) name old new rest
