-- The words of `dm run` that name posters and the files of their bundles.
pub use Rattle.dm_commands.specs.Running.{bytes_of}
use Rattle.std.specs.Prelude.{◌≡◌, ℕ, ◌<◌, Bool, List, [], ◌∷◌, ◌++◌, Option, None, Some, length, map, filter, not, if◌then◌else◌, Contains}
use Rattle.std.specs.Borrow.{Bor}
use Rattle.std.specs.Str.{bytes_eq}

-- the word is this poster, an equals sign and this file. The poster isn't empty and has no equals sign; the file may be empty
pub record IsPosterWord (word poster file : List ℕ) : Type 0 where
  pub spelled : word ≡ poster ++ 61 ∷ file
  pub first : ¬ Contains poster 61
  pub named : 0 < length poster

-- the word names no poster
abbrev pub IsNoPosterWord : List ℕ → Type 0
IsNoPosterWord word = (poster file : List ℕ) → IsPosterWord word poster file → ⊥

-- a poster and its texts
abbrev pub Poster : Type 0
Poster = List ℕ × List (List ℕ)

-- a word `POSTER=FILE` once it is read: the poster, and the text of the file where one is named
abbrev pub ReadWord : Type 0
ReadWord = List ℕ × Option (List ℕ)

-- the texts of each poster
abbrev pub texts_sent : List Poster → List (List (List ℕ))
texts_sent posters = map (λ p. p.1) posters

-- the posters, in the order in which they are first named
abbrev pub posters_of : List ReadWord → List (List ℕ)
posters_of [] = []
posters_of (word ∷ words) = word.0 ∷ filter (λ name. not (bytes_eq word.0 name)) (posters_of words)

-- the text before others, if there is one
abbrev pub with_text : Option (List ℕ) → List (List ℕ) → List (List ℕ)
with_text None texts = texts
with_text (Some text) texts = text ∷ texts

-- the texts of a poster, in the order of its words
abbrev pub texts_of : List ℕ → List ReadWord → List (List ℕ)
texts_of poster [] = []
texts_of poster (word ∷ words) = if bytes_eq poster word.0 then with_text word.1 (texts_of poster words) else texts_of poster words

-- each poster with its texts
abbrev pub by_poster : List ReadWord → List Poster
by_poster words = map {B = Poster} (λ name. (name, texts_of name words)) (posters_of words)

-- words once they are read, where a relation says which text a file had: each keeps its poster, and has a text where a file is named
abbrev pub AreRead : (List ℕ → List ℕ → Type 0) → List (Bor (List ℕ) × Bor (List ℕ)) → List ReadWord → Type 0
AreRead had [] [] = Unit
AreRead had [] (r ∷ rs) = ⊥
AreRead had (w ∷ ws) [] = ⊥
AreRead had (w ∷ ws) ((name, None) ∷ rs) = (name ≡ w.0.now) × (w.1.now ≡ []) × AreRead had ws rs
AreRead had (w ∷ ws) ((name, Some text) ∷ rs) = (name ≡ w.0.now) × (0 < length w.1.now) × had w.1.now text × AreRead had ws rs

-- each word names this poster and this file, in order
abbrev pub AreSplit : List (List ℕ) → List (List ℕ × List ℕ) → Type 0
AreSplit [] [] = Unit
AreSplit [] (p ∷ ps) = ⊥
AreSplit (w ∷ ws) [] = ⊥
AreSplit (w ∷ ws) (p ∷ ps) = IsPosterWord w p.0 p.1 × AreSplit ws ps

-- the word is the first that names no poster
pub record IsFirstBad (words : List (List ℕ)) (word : List ℕ) : Type 0 where
  pub before : List (List ℕ)
  pub pairs : List (List ℕ × List ℕ)
  pub rest : List (List ℕ)
  pub stands : words ≡ before ++ word ∷ rest
  pub split : AreSplit before pairs
  pub bad : IsNoPosterWord word
