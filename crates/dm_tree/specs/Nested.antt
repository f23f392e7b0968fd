-- What a node means. For the clauses of private functions and the fields of private types alone.
use Rattle.std.specs.Prelude.{◌<◌, [], length}
use Rattle.dm_tree.specs.declared.node.Body.{Body}
use Rattle.dm_tree.specs.declared.node.Body.TheVariants.{Text, Children}
use Rattle.dm_tree.specs.Trees.{Entry, Dir, File}
use Rattle.dm_tree.specs.Children.{PathEntries, IsRising, flatten}

-- the entry that a node is
abbrev pub entry_of : {A : Type 0} → Body A → Entry
entry_of (Text lines) = File lines
entry_of (Children children) = Dir

-- the rows inside a node
abbrev pub under_of : {A : Type 0} → Body A → PathEntries
under_of (Text lines) = []
under_of (Children children) = flatten children.items

-- a file has a line, and a directory's children rise
abbrev pub IsValid : {A : Type 0} → Body A → Type 0
IsValid (Text lines) = 0 < length lines
IsValid (Children children) = IsRising children.items
