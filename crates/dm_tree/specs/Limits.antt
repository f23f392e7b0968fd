-- How long a path may be.
use Rattle.std.specs.Prelude.{ℕ}

-- the most names of a path
abbrev pub most_names : ℕ
most_names = 32

-- the most bytes of a name
abbrev pub most_name_bytes : ℕ
most_name_bytes = 255
