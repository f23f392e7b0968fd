-- The texts of a file that was read.
use Rattle.std.specs.Prelude.{ℕ, List, map, take, drop}
use Rattle.dm_journal.specs.declared.texts.Range.{Range}

-- the bytes of a range
abbrev pub range_of : List ℕ → Range → List ℕ
range_of bytes range = take range.len (drop range.start bytes)

-- the bytes of each range
abbrev pub ranges_of : List ℕ → List Range → List (List ℕ)
ranges_of bytes ranges = map (range_of bytes) ranges
