-- How many mirrors there may be.
use Rattle.std.specs.Prelude.{ℕ}

-- the most mirrors of a plan
abbrev pub most_mirrors : ℕ
most_mirrors = 8
