-- The content of a file, as bytes and as lines.
use Rattle.std.specs.Prelude.{◌≢◌, ℕ, List, [], ◌∷◌, ◌++◌}
use Rattle.std.specs.List.{flat_map}
use Rattle.dm_tree.specs.Trees.{Lines}
use Rattle.dm_tree.specs.Validity.{ArePlain}

-- the lines joined by newlines: the first line, and each other line behind a newline
abbrev pub content : Lines → List ℕ
content [] = []
content (l ∷ ls) = l ++ flat_map (λ m. 10 ∷ m) ls

-- the lines of a file: at least one, and none has a newline
abbrev pub AreFileLines : Lines → Type 0
AreFileLines ls = (ls ≢ []) × ArePlain ls
