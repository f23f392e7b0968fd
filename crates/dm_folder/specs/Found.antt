-- What a folder tells of itself.
use Rattle.dm_tree.specs.Paths.{Name}
use Rattle.dm_folder.specs.declared.found.Found.{Found}
use Rattle.dm_folder.specs.declared.found.Kind.{Kind}

-- a name, and what stands under it
abbrev pub Told : Type 0
Told = Name × Kind

-- what was found, as it is told
abbrev pub told : Found → Told
told found = (found.name.items, found.kind)
