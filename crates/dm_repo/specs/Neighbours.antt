-- A path beside a place in a list. Clauses of private functions alone cite this file.
use Rattle.std.specs.Prelude.{◌≡◌, ◌<◌, ◌+◌, ℕ, List, length, get_or}
use Rattle.dm_tree.specs.Paths.{Path, Under}

-- the path is neither the one at this place nor under that
abbrev pub IsNotUnderAt : List Path → ℕ → Path → Type 0
IsNotUnderAt ps at p = (d : Path) → at < length ps → Under p (get_or ps at d) → ⊥

-- the path is neither the one before this place nor contains that
abbrev pub ContainsNotBefore : List Path → ℕ → Path → Type 0
ContainsNotBefore ps at p = (d : Path) (k : ℕ) → at ≡ k + 1 → k < length ps → Under (get_or ps k d) p → ⊥
