-- What is written for an entry of a tree.
use Rattle.std.specs.Prelude.{◌≡◌, ℕ, List, codes, Option, Some, None}
use Rattle.std.specs.List.{join_by}
use Rattle.dm_tree.specs.Trees.{Lines, Entry, Dir, File}
use Rattle.dm_checkout.specs.declared.item.Content.{Content}
use Rattle.dm_checkout.specs.declared.item.Content.TheVariants as content

-- the lines of a file, with a newline between each two
abbrev pub file_text : Lines → List ℕ
file_text lines = join_by (λ line. line) (codes "\n") lines

-- a folder for a directory, and a file of these bytes for a file
abbrev pub IsContent : Option Entry → Option Content → Type 0
IsContent None None = Unit {0}
IsContent (Some Dir) (Some content.Folder) = Unit {0}
IsContent (Some (File lines)) (Some (content.File bytes)) = bytes.items ≡ file_text lines
IsContent entry other = ⊥
