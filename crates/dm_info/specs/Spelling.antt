-- The text of a patch info.
use Rattle.std.specs.Prelude.{◌≡◌, ◌≤◌, ◌⊎◌, ℕ, List, [], ◌∷◌, ◌++◌, length, drop}
use Rattle.dm_info.specs.PatchInfo.{PatchInfo, IsInfo, Free, is_newline, ends_author}

-- the byte that begins a patch info
abbrev pub open_bracket : ℕ
open_bracket = 91

-- an opening bracket, the name, a newline, the author, two stars and the date
abbrev pub opening : PatchInfo → List ℕ
opening i = open_bracket ∷ (i.name ++ 10 ∷ (i.author ++ 42 ∷ 42 ∷ i.date))

-- the log's lines, each after a space and before a newline, and a closing bracket
abbrev pub log_text : List (List ℕ) → List ℕ
log_text [] = 93 ∷ []
log_text (line ∷ lines) = 32 ∷ (line ++ 10 ∷ log_text lines)

-- The text is that of the patch info: after the date stand a newline and the log. An empty log may also be just a closing bracket.
abbrev pub IsInfoText : List ℕ → PatchInfo → Type 0
IsInfoText text i = (text ≡ opening i ++ 10 ∷ log_text i.log) ⊎ ((i.log ≡ []) × (text ≡ opening i ++ 93 ∷ []))

-- The patch info stands at the front of the text, and this is left of the text after it.
pub record Stands (text : List ℕ) (i : PatchInfo) (rest : List ℕ) : Type 0 where
  pub own : List ℕ
  pub valid : IsInfo i
  pub spelled : IsInfoText own i
  pub parts : text ≡ own ++ rest

-- The patch info stands in the text from one place up to the next.
pub record StandsFrom (text : List ℕ) (at : ℕ) (i : PatchInfo) (next : ℕ) : Type 0 where
  pub within : next ≤ length text
  pub stands : Stands (drop at text) i (drop next text)

-- The patch info of an inverted patch begins the text: a star and a minus follow its author.
pub record StandsInverted (text : List ℕ) : Type 0 where
  pub name : List ℕ
  pub author : List ℕ
  pub rest : List ℕ
  pub name_free : Free is_newline name
  pub author_free : Free ends_author author
  pub parts : text ≡ open_bracket ∷ (name ++ 10 ∷ (author ++ 42 ∷ 45 ∷ rest))

-- No patch info stands at the front of the text, and no inverted one.
pub record NoneStands (text : List ℕ) : Type 0 where
  pub none : (i : PatchInfo) (rest : List ℕ) → Stands text i rest → ⊥
  pub none_inverted : StandsInverted text → ⊥

-- the canonical end: just a closing bracket for an empty log
abbrev pub canonical_end : List (List ℕ) → List ℕ
canonical_end [] = 93 ∷ []
canonical_end (line ∷ lines) = 10 ∷ log_text (line ∷ lines)

-- the canonical text, with the space after it
abbrev pub canonical : PatchInfo → List ℕ
canonical i = opening i ++ canonical_end i.log ++ 32 ∷ []

-- The canonical text of a patch info stands for it, whatever follows, up to its space.
abbrev pub RoundTrip : Type 0
RoundTrip = (i : PatchInfo) (rest : List ℕ) → IsInfo i → Stands (canonical i ++ rest) i (32 ∷ rest)

-- A text has at most one patch info at its front.
abbrev pub OneInfo : Type 0
OneInfo = (text : List ℕ) (i j : PatchInfo) (r s : List ℕ) → Stands text i r → Stands text j s → (i ≡ j) × (r ≡ s)

-- No text has both a patch info and an inverted one at its front.
abbrev pub NotBoth : Type 0
NotBoth = (text : List ℕ) (i : PatchInfo) (rest : List ℕ) → Stands text i rest → StandsInverted text → ⊥
