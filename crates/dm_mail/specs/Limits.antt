-- How many may send, how much one may send, and how much may wait.
use Rattle.std.specs.Prelude.{ℕ}

-- the most posters of a mirror
abbrev pub most_posters : ℕ
most_posters = 8

-- the most bundles that a poster sends to a mirror
abbrev pub most_bundles : ℕ
most_bundles = 1000

-- the most mails that may wait for a mirror
abbrev pub most_waiting : ℕ
most_waiting = 64
