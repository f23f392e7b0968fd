-- The lines of a listing.
use Rattle.std.proofs.Common.{◌≡◌, ℕ, List, [], ◌∷◌, ◌++◌, map, refl, ap}
use Rattle.std.specs.List.{flat_map}
use Rattle.dm_tree.specs.Paths.{Path}
use Rattle.dm_tree.specs.Trees.{Entry}
use Rattle.dm_tree.specs.Listings.{kind_of, listed_entry}
use Rattle.dm_tree.specs.declared.listing.Listed.{Listed}
use Rattle.dm_scratch.specs.Printing.{entry_text, line_of}

-- the line of a row of a listing
abbrev pub row_line : {A : Type 0} → Listed A → List ℕ
row_line row = line_of (entry_text row.path row.kind)

-- the rows have the lines of the entries
pub rows_text : (A : Type 0) (rows : List (Path × Entry)) → flat_map (λ (r : Listed A). row_line r) (map listed_entry rows) ≡ flat_map (λ row. line_of (entry_text row.0 (kind_of row.1))) rows
rows_text A [] = refl
rows_text A (r ∷ rows) = ap (λ (t : List ℕ). line_of (entry_text r.0 (kind_of r.1)) ++ t) (rows_text A rows)
