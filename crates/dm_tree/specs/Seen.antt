-- What an entry that is borrowed shows.
use Rattle.dm_tree.specs.declared.entry.Entry as lent
use Rattle.dm_tree.specs.declared.entry.Entry.TheVariants as shown
use Rattle.dm_tree.specs.Trees.{Entry, Dir, File}

-- the entry that is borrowed
abbrev pub seen : {A : Type 0} → lent.Entry A → Entry
seen shown.Dir = Dir
seen (shown.File lines) = File lines
