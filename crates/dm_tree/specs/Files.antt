-- The lines of a file held in parts, one after another. For the clauses of private functions and the fields of private types alone.
use Rattle.std.specs.Prelude.{◌≡◌, ℕ, ◌+◌, ◌<◌, ◌≤◌, List, [], ◌∷◌, ◌++◌, take, length, slice_index_or}
use Rattle.dm_tree.specs.Trees.{Lines}

-- the lines of the parts
abbrev pub joined : List Lines → Lines
joined [] = []
joined (p ∷ ps) = p ++ joined ps

-- the lines of a file in these parts: with no part it is empty, and has one line without a byte
abbrev pub lines_of : List Lines → Lines
lines_of [] = [] ∷ []
lines_of (p ∷ ps) = joined (p ∷ ps)

-- the lines begin with all lines of the front
abbrev pub BeginWith : Lines → Lines → Type 0
BeginWith ls front = (rest : Lines) × (ls ≡ front ++ rest)

-- the place `at` of all lines is the one at `line` of part k, or right behind that part's last line
abbrev pub Locates : List Lines → ℕ → ℕ → ℕ → Type 0
Locates ps at k line = (k < length ps) × (line ≤ length (slice_index_or ps k [])) × (at ≡ length (joined (take k ps)) + line)

-- the line at the place `at` of all lines is the one at `line` of part k
abbrev pub HasLine : List Lines → ℕ → ℕ → ℕ → Type 0
HasLine ps at k line = (k < length ps) × (line < length (slice_index_or ps k [])) × (at ≡ length (joined (take k ps)) + line)
