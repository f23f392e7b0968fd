-- The rows of a listing.
use Rattle.std.specs.Prelude.{ℕ, ◌+◌, ◌-◌, length, sum_by}
use Rattle.dm_tree.specs.declared.listing.Kind.{Kind}
use Rattle.dm_tree.specs.declared.listing.Kind.TheVariants as kind
use Rattle.dm_tree.specs.declared.listing.Listed.{Listed}
use Rattle.dm_tree.specs.Paths.{Path}
use Rattle.dm_tree.specs.Trees.{Lines, Entry, Dir, File}

-- the bytes of a file: those of its lines, and a newline between each two
abbrev pub file_size : Lines → ℕ
file_size ls = sum_by length ls + (length ls - 1)

-- an entry as a listing shows it
abbrev pub kind_of : Entry → Kind
kind_of Dir = kind.Dir
kind_of (File ls) = kind.File (file_size ls)

-- a path and its entry as a row
abbrev pub listed_entry : {A : Type 0} → Path × Entry → Listed A
listed_entry r = record { path = r.0; kind = kind_of r.1 }
