-- What a checkout makes.
use Rattle.std.specs.Prelude.{◌≡◌, ◌⊎◌, ℕ, List, [], ◌∷◌, ◌++◌, map, drop}
use Rattle.std.specs.FinMap as finite
use Rattle.dm_tree.specs.Paths.{Path}
use Rattle.dm_tree.specs.Trees.{Entry, Dir, File, Tree}
use Rattle.dm_checkout.specs.Places.{place_text}
use Rattle.dm_checkout.specs.Contents.{file_text}

-- one thing on a disk
pub data Made : Type 0 where
  -- the folder of the checkout: made, or there and empty
  Taken : (place : List ℕ) → Made
  -- a folder that was made
  MadeDir : (place : List ℕ) → Made
  -- a file that was made, of these bytes
  MadeFile : (place bytes : List ℕ) → Made
  -- a file that was made, with a part of its bytes or none
  MadePart : (place : List ℕ) → Made

-- what is made for an entry: a folder for a directory, and a file of its text for a file, at its own place
abbrev pub made_of : List ℕ → Path × Entry → Made
made_of folder (p, Dir) = MadeDir (place_text folder p)
made_of folder (p, File lines) = MadeFile (place_text folder p) (file_text lines)

-- the entries of a tree but the root, in the order of their paths
abbrev pub rows : Tree → List (Path × Entry)
rows t = drop 1 (finite.entries t)

-- what is made for a tree: the folder, and then each entry in turn
abbrev pub made_all : List ℕ → Tree → List Made
made_all folder t = Taken folder ∷ map (made_of folder) (rows t)

-- the first of all these in turn, and maybe a part of the file that is next
abbrev pub IsBegun : List Made → List Made → Type 0
IsBegun all done =
    ((rest : List Made) × (all ≡ done ++ rest))
    ⊎ ((before : List Made) × (place : List ℕ) × (bytes : List ℕ) × (rest : List Made) × (all ≡ before ++ MadeFile place bytes ∷ rest) × (done ≡ before ++ MadePart place ∷ []))
